use native.Mathlib.Omega.{arith}
use Rattle.decimal.proofs.Writes.{wrote_none, wrote_next}
use Rattle.marks.specs.Text.{rows_text}
use Rattle.marks.proofs.Rows.{rows_next, rows_last, rows-length}
use Rattle.marks.proofs.put_rows.Goals as goal

pub loop-m-init : goal.loop-m-init
unfolding rows_text
loop-m-init c = wrote_none _

pub put_row-requires : goal.put_row-requires
put_row-requires c = omega (arith, rows-length c.loop-m.m (omega arith))

pub loop-m-preserved : goal.loop-m-preserved
loop-m-preserved c = rw (rows_next c.loop-m.m) (wrote_next (omega arith) c.loop-m.invariant c.put_row.ensures)

pub returns : goal.returns
returns c = absurd (omega arith)

pub returns-2 : goal.returns-2
returns-2 c = rw (rows_last c.loop-m.m (omega arith)) (wrote_next (omega arith) c.loop-m.invariant c.put_row.ensures)
