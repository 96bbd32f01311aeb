-- What the test `inner` says, and the two planes by it.
use mathlib.Core.Path.{◌≡◌, refl}
use mathlib.Core.Bool.{Bool, true, false, ◌&&◌}
use mathlib.Core.List.{List}
use Prim.Native.Nat.{ℕ, ◌+◌, ◌*◌, ◌<◌, ◌≤◌}
use native.Mathlib.Omega.{arith}
use lib.Dec.{ltb}
use lib.IntN.{ℤ, pos, nat_abs}
use lib.ListN.{replicate}
use borrow.Author.Tests.{ltb-true, lt-ltb, le-ltb}
use Rattle.laws.specs.Lists.{tabulate}
use Rattle.laws.proofs.Bools.{and-true}
use Rattle.laws.proofs.Grid.{row-end}
use Rattle.laws.proofs.Tab.{cleared}
use Rattle.arch_sobel.specs.Inner.{Inner}
use Rattle.arch_sobel.specs.Sobel.{inner, grad_x, grad_y, dir_of, mag_at, dir_at}

-- a neighbour on every side, and the last of them within the plane
pub record Within (w h x y n : ℕ) : Type 0 where
  pub left : 1 ≤ x
  pub top : 1 ≤ y
  pub right : x + 1 < w
  pub bottom : y + 1 < h
  pub last : (y + 1) * w + (x + 1) < n

pub within : (w h x y n : ℕ) → inner w h x y ≡ true → n ≡ w * h → Within w h x y n
unfolding inner
within w h x y n e l =
    let p = and-true (ltb 0 x && ltb (x + 1) w) (ltb 0 y && ltb (y + 1) h) e in
    let q = and-true (ltb 0 x) (ltb (x + 1) w) p.0 in
    let r = and-true (ltb 0 y) (ltb (y + 1) h) p.1 in
    let right : x + 1 < w = ltb-true _ _ q.1 in
    let bottom : y + 1 < h = ltb-true _ _ r.1 in
    record {
      left = ltb-true 0 x q.0;
      top = ltb-true 0 y r.0;
      right = right;
      bottom = bottom;
      last = omega (arith, row-end (y + 1) w h bottom);
    }

-- the test, by what it says, and at each side of the border
pub is-inner : {w h x y : ℕ} → Inner w h x y → inner w h x y ≡ true
unfolding inner
is-inner {w} {h} {x} {y} i = simp (lt-ltb 0 x i.left, lt-ltb (x + 1) w i.right, lt-ltb 0 y i.top, lt-ltb (y + 1) h i.bottom)

neither : (a : Bool) → (a && false) ≡ false
neither true = refl
neither false = refl

pub at_left : (w h x y : ℕ) → x ≡ 0 → inner w h x y ≡ false
unfolding inner
at_left w h x y e = simp (le-ltb 0 x (omega arith))

pub at_right : (w h x y : ℕ) → w ≤ x + 1 → inner w h x y ≡ false
unfolding inner
at_right w h x y e = simp (le-ltb (x + 1) w e, neither)

pub at_top : (w h x y : ℕ) → y ≡ 0 → inner w h x y ≡ false
unfolding inner
at_top w h x y e = simp (le-ltb 0 y (omega arith), neither)

pub at-bottom : (w h x y : ℕ) → h ≤ y + 1 → inner w h x y ≡ false
unfolding inner
at-bottom w h x y e = simp (le-ltb (y + 1) h e, neither)

module _ (s : List ℕ) (w h x y : ℕ) where
  pub mag-inner : {gx gy : ℤ} → inner w h x y ≡ true → gx ≡ grad_x s w x y → gy ≡ grad_y s w x y → pos (nat_abs gx + nat_abs gy) ≡ mag_at s w h x y
  unfolding mag_at
  mag-inner e p q = simp (e, p, q)

  pub dir-inner : {gx gy : ℤ} {d : ℕ} → inner w h x y ≡ true → gx ≡ grad_x s w x y → gy ≡ grad_y s w x y → d ≡ dir_of gx gy → d ≡ dir_at s w h x y
  unfolding dir_at
  dir-inner e p q r = simp (e, r, p, q)

  pub at-border : inner w h x y ≡ false → (pos 0 ≡ mag_at s w h x y) × (0 ≡ dir_at s w h x y)
  unfolding mag_at dir_at
  at-border e = (simp e, simp e)

pub not-inner : (w h x y : ℕ) → (0 < y → y + 1 < h → 1 < w → ⊥) → inner w h x y ≡ false
not-inner w h x y o = go (inner w h x y) refl
  where
    go : (t : Bool) → inner w h x y ≡ t → inner w h x y ≡ false
    go true e = let i = within w h x y (w * h) e refl in absurd (o i.top i.bottom (omega (arith, i.right)))
    go false e = e

module _ (s : List ℕ) (w h y : ℕ) (o : 0 < y → y + 1 < h → 1 < w → ⊥) where
  pub border-mag : (n : ℕ) (m : List ℤ) → n ≡ w → m ≡ replicate n (pos 0) → m ≡ tabulate w (λ x. mag_at s w h x y)
  border-mag n m en e = cleared (pos 0) w n _ m en (λ x _. (at-border s w h x y (not-inner w h x y o)).0) e

  pub border-dir : (n : ℕ) (d : List ℕ) → n ≡ w → d ≡ replicate n 0 → d ≡ tabulate w (λ x. dir_at s w h x y)
  border-dir n d en e = cleared 0 w n _ d en (λ x _. (at-border s w h x y (not-inner w h x y o)).1) e
