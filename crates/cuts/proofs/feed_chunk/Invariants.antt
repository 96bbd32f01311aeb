-- `cuts::feed_chunk` meets its contract, and ends: with room for a line, each turn takes some bytes of the chunk. Assumes nothing.
use mathlib.Core.Path.{◌≡◌}
use Prim.Native.Nat.{◌-◌, ◌≤◌}
use lib.ListN.{length, take}
use Rattle.session.specs.Feeding.{fed}
use Rattle.session.specs.Sessions.{state_of}
use Rattle.cuts.proofs.feed_chunk.Given as goal

abbrev pub invariant-loop-taken : goal.invariant-loop-taken
invariant-loop-taken g l = (l.taken ≤ length l.chunk) × (state_of l.session ≡ fed (state_of l.initial.session) (take l.taken l.chunk))

abbrev pub decreases-loop-taken : goal.decreases-loop-taken
decreases-loop-taken g l = length l.chunk - l.taken
