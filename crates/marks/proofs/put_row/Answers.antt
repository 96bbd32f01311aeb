-- `marks::put_row` meets its contract: the three texts one after the other. Assumes nothing.
use native.Mathlib.Omega.{arith}
use Rattle.decimal.proofs.Writes.{wrote_next}
use Rattle.marks.proofs.Rows.{cell-length, row-parts}
use Rattle.marks.proofs.put_row.Goals as goal

pub put_cell-requires-2 : goal.put_cell-requires-2
put_cell-requires-2 c = omega (arith, cell-length c.args.median 44)

pub put_cell-requires-3 : goal.put_cell-requires-3
put_cell-requires-3 c = omega (arith, cell-length c.args.median 44, cell-length c.low_threshold-low.result 44)

pub returns : goal.returns
returns c =
    rw (← row-parts c.args.median, ← c.low_threshold-low.ensures, ← c.high_threshold-high.ensures)
    (wrote_next (omega arith) (wrote_next (omega arith) c.put_cell.ensures c.put_cell-2.ensures) c.put_cell-3.ensures)
