-- The bits of a double that the format has read back.
use mathlib.Core.Path.{◌≡◌, sym, subst}
use mathlib.Core.Bool.{true}
use lib.Dec.{T}
use lib.Ieee.{Float, to_bits, of_bits, binary64, fits}
use lib.Ieee.Bits.{of_bits-to_bits}

pub bits_back : (x : Float) → fits binary64 x ≡ true → of_bits binary64 (to_bits binary64 x) ≡ x
bits_back x e = of_bits-to_bits binary64 x (subst T (sym e) tt)
