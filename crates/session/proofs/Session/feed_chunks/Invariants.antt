-- `session::Session::feed_chunks` meets its contract: chunk by chunk, as the whole input in one chunk. Assumes nothing.
use Prim.Native.Nat.{◌-◌}
use lib.ListN.{length}
use Rattle.session.specs.Sessions.{state_of}
use Rattle.session.proofs.Feeding.{Taken}
use Rattle.session.proofs.Session.feed_chunks.Given as goal

abbrev pub invariant-loop-taken : goal.invariant-loop-taken
invariant-loop-taken l = Taken (state_of l.initial.self) l.input l.initial.text (state_of l.self) l.text l.taken

abbrev pub decreases-loop-taken : goal.decreases-loop-taken
decreases-loop-taken l = length l.input - l.taken
