-- `canny_marks::histogram` meets its contract. At each byte of the rest the histogram is that of the bytes before it. Assumes nothing.
use Prim.Native.Nat.{◌+◌, ◌*◌, ◌/◌}
use lib.ListN.{length}
use Rattle.canny_marks.proofs.Counts.{Tallied}
use Rattle.canny_marks.proofs.histogram.Given as goal

abbrev pub invariant-loop-b : goal.invariant-loop-b
invariant-loop-b l = Tallied l.buf (length l.buf / 4 * 4 + l.b-index) l.hist
