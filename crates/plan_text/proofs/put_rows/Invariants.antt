-- `plan_text::put_rows` meets its contract. In the loop the first i rows are written. Assumes nothing.
use lib.ListN.{take}
use Rattle.decimal.specs.Placed.{Wrote}
use Rattle.light_plan.specs.Plan.{rows_of}
use Rattle.plan_text.specs.Text.{rows_text}
use Rattle.plan_text.proofs.put_rows.Given as goal

abbrev pub invariant-loop-i : goal.invariant-loop-i
invariant-loop-i l = Wrote l.initial.text (rows_text (take l.i (rows_of l.plan))) l.text
