-- |x|: the library's, what it keeps of x, and what it has.
use mathlib.Core.Path.{◌≡◌, refl}
use mathlib.Core.Bool.{false}
use Prim.Native.Nat.{zero, suc}
use lib.Dec.{T}
use lib.Ieee.{Float, nan, inf, fin, binary64, fits}
use Rattle.laws.proofs.FloatTests.{is_zero, unsigned}
use Rattle.std.specs.Float.{float_with_sign}
use Rattle.score.specs.Floats.{abs_of}

-- `f64::abs` is |x|
pub sign_off : (x : Float) → float_with_sign false x ≡ abs_of x
unfolding float_with_sign
sign_off nan = refl
sign_off (inf s) = refl
sign_off (fin s m e) = refl

-- ---- what |x| keeps of x, and what it has

pub abs-fits : (x : Float) → T (fits binary64 x) → T (fits binary64 (abs_of x))
unfolding fits
abs-fits nan h = tt
abs-fits (inf s) h = tt
abs-fits (fin s zero e) h = h
abs-fits (fin s (suc m) e) h = h

pub abs-unsigned : (x : Float) → T (unsigned (abs_of x))
abs-unsigned nan = tt
abs-unsigned (inf s) = tt
abs-unsigned (fin s m e) = tt

pub abs-is_zero : (x : Float) → is_zero (abs_of x) ≡ is_zero x
abs-is_zero nan = refl
abs-is_zero (inf s) = refl
abs-is_zero (fin s zero e) = refl
abs-is_zero (fin s (suc m) e) = refl
