-- `q.min(255.0)` is the quotient, at most 255: a NaN is below nothing, and 255 is written in one way. Assumes nothing.
use mathlib.Core.Path.{◌≡◌, refl, ◌∙◌}
use mathlib.Core.Bool.{Bool, true, false}
use mathlib.Core.Logic.{inl, inr}
use Prim.Native.Nat.{◌*◌}
use native.Mathlib.Omega.{arith}
use lib.Dec.{T, eqb}
use lib.Ieee.{Float, nan, inf, fin, binary64, up, down, eq, le, lt, fits, is_nan, of_int}
use lib.Ieee.Back.{whole_unique}
use lib.Ieee.Fits.{of_int-fits, down_pos}
use lib.IntN.{pos}
use borrow.Author.Tests.{eqb-true}
use Rattle.std.specs.Float.{IsFloatMin, float_min}
use Rattle.laws.specs.Floats.{float}
use Rattle.laws.proofs.Bools.{and-true}
use Rattle.window.specs.Window.{capped}

-- 255 is written in one way
same-255 : (q : Float) → T (fits binary64 q) → eq q (float 255) ≡ true → q ≡ float 255
unfolding eq of_int
same-255 nan f h = cc
same-255 (inf s) f h = cc
same-255 (fin false m e) f h =
    let a = and-true (eqb (m * up e * 1) (255 * 1 * down e)) true h in
    whole_unique binary64 (fin false m e) (float 255) false 255 f (of_int-fits binary64 (pos 255)) (refl, omega (arith, eqb-true _ _ a.0)) (refl, refl)
same-255 (fin true m e) f h =
    let a = and-true (eqb (m * up e * 1) (255 * 1 * down e)) (eqb (m * up e * 1) 0) h in
    absurd (omega (arith, eqb-true _ _ a.0, eqb-true _ _ a.1, down_pos e))

-- two that compare unequal
apart : (q : Float) (l : Bool) → eq q (float 255) ≡ false → lt q (float 255) ≡ l → float_min q (float 255) ≡ capped q
unfolding capped le lt is_nan of_int
apart nan l h k = refl
apart (inf s) true h k = rw k
apart (inf s) false h k = rw (k, h)
apart (fin s m e) true h k = rw k
apart (fin s m e) false h k = rw (k, h)

-- two that compare equal, whichever is taken
alike : (r : Float) → IsFloatMin (float 255) (float 255) r → r ≡ capped (float 255)
unfolding capped le lt eq is_nan of_int
alike r (inl e) = e
alike r (inr e) = e

pub min-is : (q r : Float) → T (fits binary64 q) → IsFloatMin q (float 255) r → (eq q (float 255) ≡ false → r ≡ float_min q (float 255)) → r ≡ capped q
min-is q r f v u = by-test (eq q (float 255)) refl
  where
    by-test : (b : Bool) → eq q (float 255) ≡ b → r ≡ capped q
    by-test true h = let e = same-255 q f h in rw e (alike r (rw e at v))
    by-test false h = u h ∙ apart q (lt q (float 255)) h refl
