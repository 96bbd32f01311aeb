-- `texts::rows` meets its contract: after the loop the rows are the definition's.
use Rattle.std.proofs.Common.{arith}
use Rattle.laws.proofs.Tab.{filled-all}
use Rattle.replay_plan.specs.Texts.{turned_rows}
use Rattle.replay_plan.proofs.texts.rows.Goals as goal

pub returns : goal.returns
unfolding turned_rows
returns c = filled-all c.loop-j.invariant (omega arith)
