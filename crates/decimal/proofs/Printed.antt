-- What std prints of a number and of a stamp is their text as it is defined here.
use mathlib.Core.Path.{◌≡◌, refl, sym}
use Prim.Native.Nat.{ℕ, suc, ◌^◌, ◌<◌}
use native.Mathlib.Omega.{arith}
use borrow.Author.Tests.{lt-ltb, le-ltb}
use lib.Dec.{leb-zero}
use lib.IntN.{ℤ, pos, negsuc}
use mir.Syntax.{w64}
use mir.Val.{SFits}
use Rattle.std.specs.Fmt as fmt
use Rattle.std.proofs.lemmas.Fmt.{AppendsLastDigit, decimal_from_appends, length-decimal-le}
use Rattle.decimal.specs.Writing.{digits, decimal, stamp_text}

appends : AppendsLastDigit digits
unfolding digits
appends = record { one = λ k n small. rw (lt-ltb n 10 small); more = λ k n large. rw (le-ltb n 10 large) }

pub number_printed : (n : ℕ) → n < 2 ^ 64 → fmt.decimal n ≡ decimal n
number_printed n h = sym (decimal_from_appends digits appends 20 n h (length-decimal-le 20 n (omega arith) (omega arith) h))

pub stamp_printed : (z : ℤ) → SFits w64 z → fmt.signed_decimal z ≡ stamp_text z
unfolding stamp_text
stamp_printed (pos n) f = let h : n < 9223372036854775808 = f.sfits in rw (leb-zero n) (number_printed n (omega arith))
stamp_printed (negsuc n) f = let h : n < 9223372036854775808 = f.sfits in rw (number_printed (suc n) (omega arith)) refl
