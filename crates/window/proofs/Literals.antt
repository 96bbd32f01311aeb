-- The literals of the code, whose bits are these numbers, for `grind`.
use mathlib.Core.Path.{◌≡◌, refl}
use lib.Ieee.{binary64, div, of_int, of_bits}
use Rattle.laws.specs.Floats.{float}
use Rattle.window.specs.Window.{tiny}

pub zero-is : of_bits binary64 0 ≡ float 0
unfolding of_int of_bits
zero-is = refl

pub most-ratio : of_bits binary64 0x406fe00000000000 ≡ float 255
unfolding of_int of_bits
most-ratio = refl

pub tiny-is : of_bits binary64 0x3ee4f8b588e368f1 ≡ tiny
unfolding div of_int of_bits
tiny-is = refl

pub ruleset literals = (zero-is, most-ratio, tiny-is)
