-- Smoothed bytes and gradients by places: place i is column x of row y, a step of 1 is to the next column, and one of w to the next row.
use mathlib.Core.Path.{◌≡◌}
use mathlib.Core.List.{List}
use Prim.Native.Nat.{ℕ, zero, suc, ◌+◌, ◌-◌, ◌*◌, ◌≤◌}
use native.Mathlib.Omega.{arith}
use Rattle.arch_sobel.specs.Inner.{smooth, grad}
use Rattle.arch_sobel.specs.Sobel.{smooth_col, smooth_row, grad_x, grad_y}

row-above : (y w : ℕ) → 1 ≤ y → (y - 1) * w + w ≡ y * w
row-above zero w h = absurd (omega arith)
row-above (suc y) w h = let e : suc y - 1 ≡ y = omega arith in rw e (omega arith)

module _ (s : List ℕ) (w x y i : ℕ) (at : i ≡ y * w + x) where
  down : 1 ≤ y → smooth s i w ≡ smooth_col s w x y
  unfolding smooth_col
  down h =
      let before : i - w ≡ (y - 1) * w + x = omega (arith, row-above y w h) in
      let after : i + w ≡ (y + 1) * w + x = omega arith in
      rw (before, after, at)

  along : 1 ≤ x → smooth s i 1 ≡ smooth_row s w x y
  unfolding smooth_row
  along h =
      let before : i - 1 ≡ y * w + (x - 1) = omega arith in
      let after : i + 1 ≡ y * w + (x + 1) = omega arith in
      rw (before, after, at)

module _ (s : List ℕ) (w x y : ℕ) (left : 1 ≤ x) (top : 1 ≤ y) where
  pub across-is : grad s (y * w + x) 1 w ≡ grad_x s w x y
  unfolding grad grad_x
  across-is = rw (down s w (x + 1) y (y * w + x + 1) (omega arith) top, down s w (x - 1) y (y * w + x - 1) (omega arith) top)

  pub down-is : grad s (y * w + x) w 1 ≡ grad_y s w x y
  unfolding grad grad_y
  down-is =
      rw (
        along s w x (y + 1) (y * w + x + w) (omega arith) left,
        along s w x (y - 1) (y * w + x - w) (omega (arith, row-above y w top)) left,
      )
