-- `adaptive_words::scores_of` meets its contract: after the loop all 129 places are read.
use Rattle.std.proofs.Common.{arith}
use Rattle.laws.proofs.Tab.{filled-all}
use Rattle.adaptive_words.specs.Window.{scores_of}
use Rattle.adaptive_words.proofs.scores_of.Goals as goal

pub returns : goal.returns
unfolding scores_of
returns c = filled-all c.loop-i.invariant (omega arith)
