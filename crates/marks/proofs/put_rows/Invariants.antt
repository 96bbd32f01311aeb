-- `marks::put_rows` meets its contract. In the loop the rows of the first m medians are written. Assumes nothing.
use Rattle.decimal.specs.Placed.{Wrote}
use Rattle.marks.specs.Text.{rows_text}
use Rattle.marks.proofs.put_rows.Given as goal

abbrev pub invariant-loop-m : goal.invariant-loop-m
invariant-loop-m l = Wrote l.initial.text (rows_text l.m) l.text
