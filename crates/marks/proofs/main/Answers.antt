-- `marks::main` does nothing undefined: the text fits its room. Assumes nothing.
use mathlib.Core.Path.{sym}
use native.Mathlib.Omega.{arith}
use lib.Seq.{length-take-le}
use Rattle.marks.proofs.Rows.{table-length}
use Rattle.marks.proofs.main.Goals as goal

pub slice_bounds-out-end : goal.slice_bounds-out-end
slice_bounds-out-end c = omega (arith, c.put_table-n.ensures.1, c.put_table-n.auto, table-length)

pub slice_bounds-write_all-end : goal.slice_bounds-write_all-end
slice_bounds-write_all-end c =
    sym (length-take-le _ _ (omega (arith, c.put_table-n.ensures.1, c.put_table-n.auto, table-length)))
