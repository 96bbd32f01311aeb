-- `plan_text::put_row` meets its contract: the three texts one after the other. Assumes nothing.
use native.Mathlib.Omega.{arith}
use Rattle.std.proofs.Common.{rules}
use Rattle.decimal.proofs.Writes.{wrote_next}
use Rattle.plan_text.proofs.Rows.{cell_length, row_parts}
use Rattle.plan_text.proofs.put_row.Goals as goal

pub put_cell-requires-2 : goal.put_cell-requires-2
put_cell-requires-2 c = omega (arith, cell_length c.args.row.from 44 (search rules))

pub put_cell-requires-3 : goal.put_cell-requires-3
put_cell-requires-3 c = omega (arith, cell_length c.args.row.from 44 (search rules), cell_length c.args.row.to 44 (search rules))

pub returns : goal.returns
returns c = rw (← row_parts c.args.row) (wrote_next (omega arith) (wrote_next (omega arith) c.put_cell.ensures c.put_cell-2.ensures) c.put_cell-3.ensures)
