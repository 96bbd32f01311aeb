-- Magnitudes under the limit have class 0, whatever the direction; and the classes of a block by what was found in it.
use mathlib.Core.Path.{◌≡◌, refl, ap, ◌∙◌}
use mathlib.Core.Bool.{Bool, true, false, cond, ◌&&◌}
use mathlib.Core.List.{List, [], ◌∷◌}
use Prim.Native.Nat.{ℕ, zero, suc, ◌+◌, ◌-◌, ◌*◌, ◌≤◌, ◌<◌, min, max}
use native.Mathlib.Omega.{arith}
use lib.IntN.{ℤ, pos}
use lib.ListN.{length, get_or, take, drop}
use lib.Signed.{lt_z}
use Rattle.std.specs.List.{list_all}
use Rattle.laws.specs.Lists.{tabulate}
use Rattle.laws.proofs.Bools.{and-true, and-right-false}
use Rattle.laws.proofs.Parts.{get_d_part, length_part}
use Rattle.laws.proofs.Tab.{length-tabulate, get_d_tabulate, is-tabulate}
use Rattle.laws.proofs.Whole.{lt-le_z, lt_z-true}
use Rattle.arch_sobel.specs.Sobel.{inner, dir_at}
use Rattle.canny_thin.specs.Blocks.{class_in}
use Rattle.canny_thin.specs.Thin.{ahead, behind, stays, class_of, class_at, magnitude}

-- where all are under the limit, each is
each-under : (p : ℤ → Bool) (ms : List ℤ) → list_all p ms ≡ true → (i : ℕ) → i < length ms → p (get_or ms i (pos 0)) ≡ true
each-under p [] e i h = absurd (omega arith)
each-under p (m ∷ ms) e zero h = (and-true (p m) (list_all p ms) e).0
each-under p (m ∷ ms) e (suc i) h = each-under p ms (and-true (p m) (list_all p ms) e).1 i (omega arith)

-- a magnitude above 0 and under the limit is under both marks
under-marks : (low high : ℕ) (m : ℤ) → lt_z m (pos (max 1 (min low high))) ≡ true → lt_z (pos 0) m ≡ true → class_of low high m ≡ 0
unfolding class_of
under-marks low high m e p =
    let u = lt_z-true m (pos (max 1 (min low high))) e in
    let o = lt_z-true (pos 0) m p in
    simp (lt-le_z (pos high) m (omega (arith, u, o)), lt-le_z (pos low) m (omega (arith, u, o)))

under-is : (mag : List ℤ) (w h low high d x y : ℕ) → lt_z (magnitude mag w x y) (pos (max 1 (min low high))) ≡ true → 0 ≡ class_at mag w h low high d x y
unfolding class_at
under-is mag w h low high d x y e = by-sign (lt_z (pos 0) m) refl
  where
    m : ℤ
    m = magnitude mag w x y

    by-sign : (b : Bool) → lt_z (pos 0) m ≡ b → 0 ≡ cond (inner w h x y && stays m (ahead mag w d x y) (behind mag w d x y)) (class_of low high m) 0
    by-sign true p = rw (under-marks low high m e p) (same (inner w h x y && stays m (ahead mag w d x y) (behind mag w d x y)))
      where
        same : (b : Bool) → ◌≡◌ {A = ℕ} 0 (cond b 0 0)
        same true = refl
        same false = refl
    by-sign false p = rw (p, and-right-false (inner w h x y) false refl) refl

-- the classes of n places of row y from column x on
module _ (luma : List ℕ) (mag : List ℤ) (w h low high x y n : ℕ) where
  -- thinned by their directions
  pub block-thinned : (dirs out : List ℕ) → dirs ≡ tabulate n (λ j. dir_at luma w h (x + j) y)
      → out ≡ tabulate (length dirs) (λ j. class_at mag w h low high (get_or dirs j 0) (x + j) y) → out ≡ tabulate n (λ j. class_in luma mag w h low high (x + j) y)
  block-thinned dirs out d e =
      is-tabulate 0 out n (λ j. class_in luma mag w h low high (x + j) y) (ap length e ∙ length-tabulate (length dirs) _ ∙ size)
      (λ j b.
      ap (λ (t : List ℕ). get_or t j 0) e ∙ get_d_tabulate (length dirs) _ 0 j (omega (arith, size))
      ∙ ap (λ (v : ℕ). class_at mag w h low high v (x + j) y) (ap (λ (t : List ℕ). get_or t j 0) d ∙ get_d_tabulate n _ 0 j b))
    where
      size : length dirs ≡ n
      size = ap length d ∙ length-tabulate n _

  -- 0 where no magnitude reaches a mark
  pub block-clear : (out : List ℕ) → y * w + x + n ≤ length mag
      → list_all (λ m. lt_z m (pos (max 1 (min low high)))) (take (y * w + x + n - (y * w + x)) (drop (y * w + x) mag)) ≡ true
      → length out ≡ n → ((j : ℕ) → j < length out → get_or out j 0 ≡ 0) → out ≡ tabulate n (λ j. class_in luma mag w h low high (x + j) y)
  block-clear out inside e l z =
      is-tabulate 0 out n (λ j. class_in luma mag w h low high (x + j) y) l
      (λ j b. z j (omega (arith, l)) ∙ under-is mag w h low high (dir_at luma w h (x + j) y) (x + j) y (at j b))
    where
      p : ℕ
      p = y * w + x

      wide : p + n - p ≡ n
      wide = omega arith

      at : (j : ℕ) → j < n → lt_z (magnitude mag w (x + j) y) (pos (max 1 (min low high))) ≡ true
      at j b =
          let o : y * w + (x + j) ≡ p + j = omega arith in
          let f = each-under (λ m. lt_z m (pos (max 1 (min low high)))) (take n (drop p mag)) (rw wide at e) j (omega (arith, length_part p n mag inside)) in
          rw o (rw (get_d_part p n mag j (pos 0) b) at f)
