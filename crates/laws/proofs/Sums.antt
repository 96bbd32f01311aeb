-- Sums by index.
use Rattle.laws.specs.Lists.{sum}
use Prim.Native.Nat.{ℕ, zero, suc, ◌*◌, ◌≤◌, ◌<◌}
use native.Mathlib.Omega.{arith}

-- a sum of n terms of at most m each is at most n * m
pub sum_bound : (n m : ℕ) (f : ℕ → ℕ) → ((i : ℕ) → i < n → f i ≤ m) → sum n f ≤ n * m
unfolding sum
sum_bound zero m f h = omega arith
sum_bound (suc n) m f h = omega (arith, sum_bound n m f (λ i b. h i (omega arith)), h n (omega arith))
