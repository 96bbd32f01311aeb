-- What a reader shows of a score that may be missing.
use Rattle.std.proofs.Common.{Float, Option, None, Some}
use Rattle.std.specs.Option.{unwrap_or}
use mathlib.Core.Path.{◌≡◌, refl}
use lib.Ieee.{of_int, of_bits, binary64}
use Rattle.station_answer.specs.Answer.{score_shown}

-- a score that may be missing, or the double whose bits are 0
pub or_zero : (s : Option Float) → unwrap_or s (of_bits binary64 0) ≡ score_shown s
unfolding of_int of_bits
or_zero None = refl
or_zero (Some x) = refl
