-- The difference of two planes (`mean_abs_diff`): the whole sum of their absolute differences, the number of pixels, and the mean, which is
-- the sum divided by that number in one f64 division; 0.0 when there are no pixels (RULES 4.1, 4.2).
use Rattle.std.specs.Prelude.{cond, List, ℕ, ◌+◌, ◌-◌, length, get_or, eqb, Float}
use Rattle.std.specs.Float.{binary64}
use Rattle.std.specs.Float.Ieee.{div}
use Rattle.laws.specs.Lists.{sum}
use Rattle.laws.specs.Floats.{float}
use Rattle.arch_planes.specs.declared.PlaneDifference.{PlaneDifference}

-- |a - b|: one of the two differences is 0
abbrev pub dist : ℕ → ℕ → ℕ
dist a b = (a - b) + (b - a)

-- the whole sum of |s[i] - t[i]|, over the places of s
unfoldable pub sum_abs_diff : List ℕ → List ℕ → ℕ
sum_abs_diff s t = sum (length s) (λ i. dist (get_or s i 0) (get_or t i 0))

-- a whole sum divided by a count of pixels; 0.0 for no pixels
unfoldable pub mean_of : ℕ → ℕ → Float
mean_of total n = cond (eqb n 0) (float 0) (div binary64 (float total) (float n))

-- the difference of two planes of one length: the sum of |s[i] - t[i]|, the number of places, and the mean
unfoldable pub mean_abs_diff : List ℕ → List ℕ → PlaneDifference
mean_abs_diff s t = record { sum = sum_abs_diff s t; count = length s; mean = mean_of (sum_abs_diff s t) (length s) }
