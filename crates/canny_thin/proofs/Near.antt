-- The two neighbours along a direction, by their places, and the class of a pixel by the tests that `class_at` makes.
use mathlib.Core.Path.{◌≡◌, refl, sym, ap, ◌∙◌}
use mathlib.Core.Bool.{Bool, true, false, cond, ◌&&◌, ◌||◌}
use mathlib.Core.List.{List}
use Prim.Native.Nat.{ℕ, zero, suc, ◌+◌, ◌-◌, ◌*◌, ◌/◌, ◌%◌, ◌<◌}
use native.Mathlib.Omega.{arith}
use lib.Dec.{eqb}
use lib.ListN.{length, get_or, replicate}
use borrow.Author.Tests.{ne_eqb}
use lib.IntN.{ℤ, pos}
use lib.Signed.{le_z, lt_z}
use mir.Val.{bool_byte}
use Rattle.laws.specs.Lists.{tabulate, plane}
use Rattle.laws.proofs.Grid.{row_lt, col-lt}
use Rattle.laws.proofs.InPlace.{row_before}
use Rattle.laws.proofs.Planes.{get_d-plane}
use Rattle.laws.proofs.Tab.{length-tabulate, get_d_tabulate, is-tabulate}
use Rattle.arch_sobel.specs.Sobel.{inner, dir_at, sobel_dir}
use Rattle.arch_sobel.proofs.Inner.{Within, not-inner}
use Rattle.laws.proofs.Tab.{cleared}
use Rattle.canny_thin.specs.Blocks.{class_in}
use Rattle.canny_thin.specs.Step.{step_of, stays_by, stays_along}
use Rattle.canny_thin.specs.Thin.{ahead, behind, stays, class_of, class_at, thinned, magnitude}

-- a test as a number
pub bit_is : (t : Bool) → bool_byte t ≡ cond t 1 0
bit_is true = refl
bit_is false = refl

-- the four ways tried and one picked
pub along-is : (mag : List ℤ) (w d i : ℕ) (across fall down rise p q r : Bool) → across ≡ stays_by mag i 1 → fall ≡ stays_by mag i (w + 1)
    → down ≡ stays_by mag i w → rise ≡ stays_by mag i (w - 1) → p ≡ cond (eqb d 2) down rise → q ≡ cond (eqb d 1) fall p → r ≡ cond (eqb d 0) across q
    → r ≡ stays_along mag w d i
unfolding stays_along step_of
along-is mag w zero i across fall down rise p q r e₀ e₁ e₂ e₃ ep eq er = er ∙ e₀
along-is mag w (suc zero) i across fall down rise p q r e₀ e₁ e₂ e₃ ep eq er = er ∙ eq ∙ e₁
along-is mag w (suc (suc zero)) i across fall down rise p q r e₀ e₁ e₂ e₃ ep eq er = er ∙ eq ∙ ep ∙ e₂
along-is mag w (suc (suc (suc d))) i across fall down rise p q r e₀ e₁ e₂ e₃ ep eq er =
    let n = suc (suc (suc d)) in
    let fr : r ≡ q = rw (ne_eqb n 0 (λ z. omega arith)) at er in
    let fq : q ≡ p = rw (ne_eqb n 1 (λ z. omega arith)) at eq in
    let fp : p ≡ rise = rw (ne_eqb n 2 (λ z. omega arith)) at ep in
    fr ∙ fq ∙ fp ∙ e₃

swap : (t a b : Bool) → (t && (a && b)) ≡ (t && (b && a))
swap true true true = refl
swap true true false = refl
swap true false true = refl
swap true false false = refl
swap false a b = refl

module _ (mag : List ℤ) (w h x y : ℕ) (W : Within w h x y (length mag)) where
  at : {i j : ℕ} → i ≡ j → get_or mag i (pos 0) ≡ get_or mag j (pos 0)
  at e = ap (λ (n : ℕ). get_or mag n (pos 0)) e

  near-stays : (d : ℕ) (m : ℤ) → stays m (get_or mag (y * w + x + step_of d w) (pos 0)) (get_or mag (y * w + x - step_of d w) (pos 0))
      ≡ stays m (ahead mag w d x y) (behind mag w d x y)
  unfolding step_of ahead behind
  near-stays zero m =
      let a : get_or mag (y * w + x + 1) (pos 0) ≡ magnitude mag w (x + 1) y = at (omega arith) in
      let b : get_or mag (y * w + x - 1) (pos 0) ≡ magnitude mag w (x - 1) y = at (omega (arith, W.left)) in
      rw (a, b)
  near-stays (suc zero) m =
      let a : get_or mag (y * w + x + (w + 1)) (pos 0) ≡ magnitude mag w (x + 1) (y + 1) = at (omega arith) in
      let b : get_or mag (y * w + x - (w + 1)) (pos 0) ≡ magnitude mag w (x - 1) (y - 1) = at (omega (arith, W.left, row_before y w W.top)) in
      rw (a, b)
  near-stays (suc (suc zero)) m =
      let a : get_or mag (y * w + x + w) (pos 0) ≡ magnitude mag w x (y + 1) = at (omega arith) in
      let b : get_or mag (y * w + x - w) (pos 0) ≡ magnitude mag w x (y - 1) = at (omega (arith, row_before y w W.top)) in
      rw (a, b)
  near-stays (suc (suc (suc d))) m =
      let a : get_or mag (y * w + x + (w - 1)) (pos 0) ≡ magnitude mag w (x - 1) (y + 1) = at (omega (arith, W.left, W.right)) in
      let b : get_or mag (y * w + x - (w - 1)) (pos 0) ≡ magnitude mag w (x + 1) (y - 1) = at (omega (arith, W.right, row_before y w W.top)) in
      rw (a, b) (swap (lt_z (pos 0) m) (le_z (magnitude mag w (x - 1) (y + 1)) m) (le_z (magnitude mag w (x + 1) (y - 1)) m))

  pub along-stays : (d : ℕ) → stays_along mag w d (y * w + x) ≡ stays (magnitude mag w x y) (ahead mag w d x y) (behind mag w d x y)
  unfolding stays_along
  along-stays d = near-stays d (magnitude mag w x y)

-- a class as a sum of bits
pub class-sum : (stay strong weak : Bool) → cond (stay && strong) 1 0 + cond (stay && (strong || weak)) 1 0 ≡ cond stay (cond strong 2 (cond weak 1 0)) 0
class-sum true true weak = refl
class-sum true false true = refl
class-sum true false false = refl
class-sum false strong weak = refl

-- the class of column x of row y, with direction d, by whether it is inner and stays
module _ (mag : List ℤ) (w h low high d x y : ℕ) where
  pub class-inner : (c : ℕ) (stay : Bool) → inner w h x y ≡ true → stay ≡ stays (magnitude mag w x y) (ahead mag w d x y) (behind mag w d x y)
      → c ≡ cond stay (class_of low high (magnitude mag w x y)) 0 → c ≡ class_at mag w h low high d x y
  unfolding class_at
  class-inner c stay p q e = rw (p, ← q) e

  pub class-border : inner w h x y ≡ false → 0 ≡ class_at mag w h low high d x y
  unfolding class_at
  class-border p = rw p

-- a row of zeros is that of classes where it has no inner place
pub class-zeros : (luma : List ℕ) (mag : List ℤ) (w h low high y n : ℕ) (m : List ℕ) → n ≡ w → (0 < y → y + 1 < h → 1 < w → ⊥) → m ≡ replicate n 0
    → m ≡ tabulate w (λ x. class_in luma mag w h low high x y)
class-zeros luma mag w h low high y n m l o e =
    cleared 0 w n (λ x. class_in luma mag w h low high x y) m l (λ x b. class-border mag w h low high (dir_at luma w h x y) x y (not-inner w h x y o)) e

-- the class plane, by the direction of each place and by the plane of directions
pub by-directions : (luma : List ℕ) (mag : List ℤ) (w h low high : ℕ) (out : List ℕ) → out ≡ plane w h (class_in luma mag w h low high)
    → out ≡ thinned mag (sobel_dir luma w h) w h low high
unfolding thinned sobel_dir
by-directions luma mag w h low high out e =
    is-tabulate 0 out (w * h) _ (ap length e ∙ length-tabulate (w * h) _)
    (λ i b.
    ap (λ (t : List ℕ). get_or t i 0) e ∙ get_d_tabulate (w * h) _ 0 i b
    ∙ ap (λ (d : ℕ). class_at mag w h low high d (i % w) (i / w)) (sym (get_d-plane 0 w h (dir_at luma w h) (i % w) (i / w) (col-lt i w h b) (row_lt i w h b))))
