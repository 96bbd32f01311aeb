-- `canny_marks::high_threshold` meets its contract: the median's entry of the table. Assumes nothing.
use Rattle.std.proofs.Common.{arith}
use Rattle.canny_marks.proofs.Tables.{high_mark_at}
use Rattle.canny_marks.proofs.high_threshold.Goals as goal

pub returns : goal.returns
returns c = rw c.from.ensures (high_mark_at _ (omega arith))
