-- The places of the block before v are done, and the buffer has the largest of those past the block that the last of them reaches.
use Rattle.dilate.proofs.Gathered.{ReachedOn}
use Rattle.dilate.proofs.Columns.reach_on.Given as goal

abbrev pub invariant-loop-v : goal.invariant-loop-v
invariant-loop-v l = ReachedOn l.self l.start l.fn.plane l.v l.plane l.buffer
