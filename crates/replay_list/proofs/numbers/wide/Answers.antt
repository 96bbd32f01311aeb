use Rattle.std.proofs.Common.{refl}
use Rattle.laws.proofs.Stepped.{stepped-none, stepped-more}
use Rattle.replay_list.proofs.numbers.wide.Goals as goal

pub loop-i-init : goal.loop-i-init
loop-i-init c = stepped-none refl

pub loop-i-preserved : goal.loop-i-preserved
loop-i-preserved c = stepped-more c.loop-i.invariant refl c.pushed-n.ensures
