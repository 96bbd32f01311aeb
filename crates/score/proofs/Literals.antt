-- The literals of the code, whose bits are these whole numbers, for `grind`.
use mathlib.Core.Path.{◌≡◌, refl}
use lib.Ieee.{binary64, of_int, of_bits}
use Rattle.laws.specs.Floats.{float}

pub zero-is : of_bits binary64 0 ≡ float 0
unfolding of_int of_bits
zero-is = refl

pub one-is : of_bits binary64 0x3ff0000000000000 ≡ float 1
unfolding of_int of_bits
one-is = refl

pub most-weight : of_bits binary64 0x4130000000000000 ≡ float 1048576
unfolding of_int of_bits
most-weight = refl

pub ruleset literals = (zero-is, one-is, most-weight)
