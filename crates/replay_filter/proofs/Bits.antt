-- The library's 64 bits of a signed number are those of the definition.
use Rattle.std.proofs.Common.{◌≡◌, refl, ℤ, pos, negsuc, arith, w64}
use Rattle.std.specs.Int.{cast_unsigned}
use Rattle.replay_filter.specs.Answers.{bits_of}

pub cast_bits : (z : ℤ) → cast_unsigned w64 z ≡ bits_of z
cast_bits (pos n) = refl
cast_bits (negsuc n) = omega arith
