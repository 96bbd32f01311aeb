use Rattle.std.proofs.Common.{◌+◌, arith}
use Rattle.dilate.proofs.Blocks.{blocks-more}
use Rattle.dilate.proofs.Columns.widen.Goals as goal

pub loop-start-preserved : goal.loop-start-preserved
loop-start-preserved c = blocks-more c.loop-start.invariant c.gather.ensures c.reach_on.ensures (omega arith) (c.loop-start.start + c.args.self.n) (omega arith)

pub returns-2 : goal.returns-2
returns-2 c = blocks-more c.loop-start.invariant c.gather.ensures c.reach_on.ensures (omega arith) c.args.self.h (omega arith)
