-- The places below the index are written, and read back.
use lib.Ieee.{nan, binary64, to_bits, of_bits}
use Rattle.adaptive_words.proofs.Places.{Placed}
use Rattle.adaptive_words.proofs.put_scores.Given as goal

abbrev pub invariant-loop-i : goal.invariant-loop-i
invariant-loop-i l = Placed nan (to_bits binary64) (of_bits binary64) 129 l.scores l.i l.out
