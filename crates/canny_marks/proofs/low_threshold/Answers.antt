-- `canny_marks::low_threshold` meets its contract: the median's entry of the table. Assumes nothing.
use Rattle.std.proofs.Common.{arith}
use Rattle.canny_marks.proofs.Tables.{low_mark_at}
use Rattle.canny_marks.proofs.low_threshold.Goals as goal

pub returns : goal.returns
returns c = rw c.from.ensures (low_mark_at _ (omega arith))
