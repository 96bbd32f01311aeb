use Rattle.std.proofs.Common.{refl, arith}
use Rattle.laws.proofs.Stepped.{stepped-none, stepped-more}
use Rattle.replay_list.proofs.starts.back.Goals as goal

pub loop-init : goal.loop-init
loop-init c = (omega arith, stepped-none refl)

pub loop-preserved : goal.loop-preserved
loop-preserved c = (omega arith, stepped-more c.loop.invariant.1 (omega arith) c.less-first.ensures)
