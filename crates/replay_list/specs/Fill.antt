-- The first memory of a list, by the number of its first place and the step from place to place (compare/README.md, "Lists of operations").
-- Numbers are of 64 bits, and past 2^64 - 1 they go on from 0.
use Rattle.std.specs.Prelude.{ℕ, ◌+◌, ◌-◌, ◌%◌, List, ℤ}
use Rattle.laws.specs.Lists.{tabulate}
use Rattle.laws.specs.Steps.{steps}
use Rattle.replay_list.specs.Numbers.{less_of, stamp_of}

-- the number from which the last of n places is 2^64 - 1: that, less the step n - 1 times
abbrev pub back_of : (step n : ℕ) → ℕ
back_of step n = steps (n - 1) (λ _ m. less_of m step) 18446744073709551615

-- the number at place i: the first, and the step i times
abbrev pub number_at : (first step i : ℕ) → ℕ
number_at first step i = steps i (λ _ m. (m + step) % 18446744073709551616) first

-- a memory of `size` places: at each the stamp of its number
abbrev pub filled_of : (size first step : ℕ) → List ℤ
filled_of size first step = tabulate size (λ i. stamp_of (number_at first step i))
