-- The places below the index are read.
use lib.IntN.{pos}
use lib.ListN.{get_or}
use Rattle.std.specs.Int.{w64}
use Rattle.std.proofs.Common.{to_z}
use Rattle.laws.proofs.Tab.{Filled}
use Rattle.adaptive_words.proofs.stamps_of.Given as goal

abbrev pub invariant-loop-i : goal.invariant-loop-i
invariant-loop-i l = Filled (pos 0) (λ k. to_z w64 (get_or l.w k 0)) 129 l.i l.stamps
