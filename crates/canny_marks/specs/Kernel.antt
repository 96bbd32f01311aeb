-- The side k of the window where no k is set (RULES 5.13): with d the greatest whole number that is 0 or has (96 × (2d - 1))² ≤ n, where n is
-- the number of pixels, k is 4 + d, plus 1 if that is even.
use Rattle.std.specs.Prelude.{Bool, cond, ℕ, zero, suc, ◌+◌, ◌-◌, ◌*◌, ◌/◌, ◌%◌, leb, eqb}

-- 96 × (2d - 1)
abbrev pub reach : ℕ → ℕ
reach d = 96 * (2 * d - 1)

-- (96 × (2d - 1))² ≤ n
abbrev pub within : ℕ → ℕ → Bool
within n d = leb (reach d * reach d) n

-- the greatest d, up to the second number, with d = 0 or (96 × (2d - 1))² ≤ n
unfoldable pub greatest : ℕ → ℕ → ℕ
greatest n zero = 0
greatest n (suc d) = cond (within n (suc d)) (suc d) (greatest n d)

-- the greatest d at all: none over n / 96² will do, since d ≤ (2d - 1)² (proofs/Greatest.antt proves that it is the greatest)
unfoldable pub spread : ℕ → ℕ
spread n = greatest n (n / 9216)

-- k, plus 1 if that is even
abbrev pub odd_up : ℕ → ℕ
odd_up k = cond (eqb (k % 2) 0) (k + 1) k

-- k for a frame of this width and height
unfoldable pub auto_kernel_size : ℕ → ℕ → ℕ
auto_kernel_size width height = odd_up (4 + spread (width * height))
