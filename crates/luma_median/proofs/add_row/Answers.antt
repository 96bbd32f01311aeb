use Rattle.std.proofs.Common.{arith}
use Rattle.luma_median.proofs.Rows.{grown_none, grown_more, grown-small, grown_all}
use Rattle.luma_median.proofs.add_row.Goals as goal

pub loop-b-init : goal.loop-b-init
loop-b-init c = grown_none _ _ c.told-counts

pub overflow_add-counts : goal.overflow_add-counts
overflow_add-counts c = omega (arith, c.requires c.from.result (omega arith), grown-small c.loop-b.invariant (omega arith) c.from.result (omega arith))

pub loop-b-preserved : goal.loop-b-preserved
loop-b-preserved c = grown_more c.loop-b.invariant c.loop-b-test.true c.from.ensures (omega arith)

pub returns : goal.returns
returns c = grown_all c.loop-b.invariant (omega arith)
