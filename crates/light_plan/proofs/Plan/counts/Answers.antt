use Rattle.std.proofs.Common.{arith}
use Rattle.light_plan.proofs.Counts.{counted_none, counted_more, counted_all}
use Rattle.light_plan.proofs.Plan.counts.Goals as goal

pub loop-i-init : goal.loop-i-init
loop-i-init c = counted_none _

pub loop-i-preserved : goal.loop-i-preserved
loop-i-preserved c = counted_more _ c.loop-i.invariant (omega arith) (rw c.row.ensures at c.count_row.ensures)

pub returns : goal.returns
returns c = counted_all c.loop-i.invariant (omega arith)
