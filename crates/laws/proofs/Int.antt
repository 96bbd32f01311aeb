-- i32 arithmetic by one bound in ℕ: the size of an integer, `nat_abs`. Code computes at `to_z w32 (of_z w32 z)`, which is z where the size is below 2 ^ 31.
use mathlib.Core.Path.{◌≡◌, refl}
use mathlib.Core.Bool.{Bool, true, false, cond}
use Prim.Native.Nat.{ℕ, zero, suc, ◌+◌, ◌-◌, ◌^◌, ◌≤◌, ◌<◌}
use native.Mathlib.Nat.{le_refl, le-suc}
use native.Mathlib.Omega.{arith}
use lib.Dec.{ltb}
use lib.IntN.{ℤ, pos, negsuc, nat_abs, ◌-ℤ◌}
use lib.Signed.{mag}
use borrow.Author.Tests.{ltb-true, ltb-false}
use mir.Syntax.{w32}
use mir.Val.{SFits, to_z, of_z}
use mir.Facts as facts

mag-le : (z : ℤ) → mag z ≤ nat_abs z
mag-le (pos n) = le_refl n
mag-le (negsuc n) = le-suc n

-- z is an i32, and is what the code reads back
pub sfits32 : (z : ℤ) → nat_abs z < 2 ^ 31 → SFits w32 z
sfits32 z h = record { sfits = omega (arith, mag-le z) }

pub back32 : (z : ℤ) → nat_abs z < 2 ^ 31 → to_z w32 (of_z w32 z) ≡ z
back32 z h = facts.to_z-of_z (sfits32 z h)

-- a u32 below 2 ^ 31 `as i32`
pub pos32 : (n : ℕ) → n < 2 ^ 31 → to_z w32 n ≡ pos n
pos32 n h = facts.to_z_pos w32 h

abs-sub : (a b : ℕ) (t : Bool) → ltb a b ≡ t → nat_abs (cond t (negsuc (b - suc a)) (pos (a - b))) ≡ (a - b) + (b - a)
abs-sub a b true e = omega (arith, ltb-true a b e)
abs-sub a b false e = omega (arith, ltb-false a b e)

-- the size of a difference of two naturals
pub abs-minus : (a b : ℕ) → nat_abs (pos a -ℤ pos b) ≡ (a - b) + (b - a)
abs-minus a zero = omega arith
abs-minus a (suc b) = abs-sub a (suc b) (ltb a (suc b)) refl
