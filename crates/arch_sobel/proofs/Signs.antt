-- The signs that `signum` gives are equal where those of the definition are.
use mathlib.Core.Path.{◌≡◌, refl}
use Prim.Native.Nat.{ℕ, zero, suc, min}
use native.Mathlib.Omega.{arith}
use lib.Dec.{eqb}
use lib.IntN.{ℤ, pos, negsuc}
use mir.Syntax.{w32}
use mir.Val.{of_z}
use Rattle.std.specs.Int.{int_signum}
use Rattle.arch_sobel.specs.Sobel.{sign_of}

one : (n : ℕ) → min (suc n) 1 ≡ 1
one n = omega arith

pub same-signs : (x y : ℤ) → eqb (of_z w32 (int_signum x)) (of_z w32 (int_signum y)) ≡ eqb (sign_of x) (sign_of y)
unfolding sign_of
same-signs (pos zero) (pos zero) = refl
same-signs (pos zero) (pos (suc n)) = rw (one n)
same-signs (pos zero) (negsuc n) = refl
same-signs (pos (suc m)) (pos zero) = rw (one m)
same-signs (pos (suc m)) (pos (suc n)) = rw (one m, one n)
same-signs (pos (suc m)) (negsuc n) = rw (one m)
same-signs (negsuc m) (pos zero) = refl
same-signs (negsuc m) (pos (suc n)) = rw (one n)
same-signs (negsuc m) (negsuc n) = refl
