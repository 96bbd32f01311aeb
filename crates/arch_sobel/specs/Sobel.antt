-- The gradients of a plane (`sobel`; RULES 5.6, 5.7). They are signed, with Sobel's weights 1, 2, 1. The magnitude is |gx| + |gy|, and 0 at
-- the border. The direction is 0 if 1000 |gy| < 414 |gx|; 2 if 1000 |gy| > 2414 |gx|; otherwise 1 if gx and gy have the same sign, where zero
-- is a sign of its own; otherwise 3. s is a plane of bytes of w columns and h rows.
use Rattle.std.specs.Prelude.{Bool, cond, ◌&&◌, List, ℕ, zero, suc, ◌+◌, ◌-◌, ◌*◌, get_or, ltb, eqb, ℤ, pos, negsuc, nat_abs, ◌-ℤ◌}
use Rattle.laws.specs.Lists.{plane}

-- the byte at column x of row y
abbrev pub px : List ℕ → ℕ → ℕ → ℕ → ℕ
px s w x y = get_or s (y * w + x) 0

-- the three bytes of column x about row y, added with the weights 1, 2, 1
unfoldable pub smooth_col : List ℕ → ℕ → ℕ → ℕ → ℕ
smooth_col s w x y = px s w x (y - 1) + 2 * px s w x y + px s w x (y + 1)

-- the three bytes of row y about column x, added with the weights 1, 2, 1
unfoldable pub smooth_row : List ℕ → ℕ → ℕ → ℕ → ℕ
smooth_row s w x y = px s w (x - 1) y + 2 * px s w x y + px s w (x + 1) y

-- gx, the gradient across: the column to the right less the column to the left
unfoldable pub grad_x : List ℕ → ℕ → ℕ → ℕ → ℤ
grad_x s w x y = pos (smooth_col s w (x + 1) y) -ℤ pos (smooth_col s w (x - 1) y)

-- gy, the gradient down: the row below less the row above
unfoldable pub grad_y : List ℕ → ℕ → ℕ → ℕ → ℤ
grad_y s w x y = pos (smooth_row s w x (y + 1)) -ℤ pos (smooth_row s w x (y - 1))

-- a number for each sign: zero, above zero, below zero
unfoldable pub sign_of : ℤ → ℕ
sign_of (pos zero) = 0
sign_of (pos (suc n)) = 1
sign_of (negsuc n) = 2

-- the direction of gx and gy
unfoldable pub dir_of : ℤ → ℤ → ℕ
dir_of gx gy =
    cond (ltb (1000 * nat_abs gy) (414 * nat_abs gx)) 0
    (cond (ltb (2414 * nat_abs gx) (1000 * nat_abs gy)) 2
    (cond (eqb (sign_of gx) (sign_of gy)) 1 3))

-- not at the border: column x of row y has a neighbour on every side
unfoldable pub inner : ℕ → ℕ → ℕ → ℕ → Bool
inner w h x y = (ltb 0 x && ltb (x + 1) w) && (ltb 0 y && ltb (y + 1) h)

-- the magnitude at column x of row y; 0 at the border
unfoldable pub mag_at : List ℕ → ℕ → ℕ → ℕ → ℕ → ℤ
mag_at s w h x y = cond (inner w h x y) (pos (nat_abs (grad_x s w x y) + nat_abs (grad_y s w x y))) (pos 0)

-- the direction at column x of row y; 0 at the border
unfoldable pub dir_at : List ℕ → ℕ → ℕ → ℕ → ℕ → ℕ
dir_at s w h x y = cond (inner w h x y) (dir_of (grad_x s w x y) (grad_y s w x y)) 0

-- the magnitude plane
unfoldable pub sobel_mag : List ℕ → ℕ → ℕ → List ℤ
sobel_mag s w h = plane w h (mag_at s w h)

-- the direction plane
unfoldable pub sobel_dir : List ℕ → ℕ → ℕ → List ℕ
sobel_dir s w h = plane w h (dir_at s w h)
