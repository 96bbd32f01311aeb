-- The places below the index are read.
use lib.Ieee.{nan, binary64, of_bits}
use lib.ListN.{get_or}
use Rattle.laws.proofs.Tab.{Filled}
use Rattle.adaptive_words.proofs.scores_of.Given as goal

abbrev pub invariant-loop-i : goal.invariant-loop-i
invariant-loop-i l = Filled nan (λ k. of_bits binary64 (get_or l.w k 0)) 129 l.i l.scores
