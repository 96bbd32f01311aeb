-- The neighbours along a direction, by how far away they are in the plane. Only contracts of private functions cite this.
use Rattle.std.specs.Prelude.{Bool, List, ℕ, zero, suc, ◌+◌, ◌-◌, ℤ, pos, get_or}
use Rattle.canny_thin.specs.Thin.{stays}

-- how many places further on one of the two neighbours is, and how many places back the other
unfoldable pub step_of : ℕ → ℕ → ℕ
step_of zero w = 1
step_of (suc zero) w = w + 1
step_of (suc (suc zero)) w = w
step_of (suc (suc (suc d))) w = w - 1

-- whether the magnitude at place i is above 0 and not below those s places further on and s places back
abbrev pub stays_by : List ℤ → ℕ → ℕ → Bool
stays_by mag i s = stays (get_or mag i (pos 0)) (get_or mag (i + s) (pos 0)) (get_or mag (i - s) (pos 0))

-- the same along direction d
unfoldable pub stays_along : List ℤ → ℕ → ℕ → ℕ → Bool
stays_along mag w d i = stays_by mag i (step_of d w)
