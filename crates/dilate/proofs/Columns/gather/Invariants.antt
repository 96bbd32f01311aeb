-- The places from v on to the end of the block are done, and the buffer has the largest of them.
use Rattle.dilate.proofs.Gathered.{Gathered}
use Rattle.dilate.proofs.Columns.gather.Given as goal

abbrev pub invariant-loop-v : goal.invariant-loop-v
invariant-loop-v l = Gathered l.self l.start l.end l.fn.plane l.v l.plane l.buffer
