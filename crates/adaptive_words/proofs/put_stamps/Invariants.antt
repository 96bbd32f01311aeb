-- The places below the index are written, and read back.
use lib.IntN.{pos}
use Rattle.std.specs.Int.{w64}
use Rattle.std.proofs.Common.{of_z, to_z}
use Rattle.adaptive_words.proofs.Places.{Placed}
use Rattle.adaptive_words.proofs.put_stamps.Given as goal

abbrev pub invariant-loop-i : goal.invariant-loop-i
invariant-loop-i l = Placed (pos 0) (of_z w64) (to_z w64) 129 l.stamps l.i l.out
