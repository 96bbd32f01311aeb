-- `adaptive_words::stamps_of` meets its contract: after the loop all 129 places are read.
use Rattle.std.proofs.Common.{arith}
use Rattle.laws.proofs.Tab.{filled-all}
use Rattle.adaptive_words.specs.Window.{stamps_of}
use Rattle.adaptive_words.proofs.stamps_of.Goals as goal

pub returns : goal.returns
unfolding stamps_of
returns c = filled-all c.loop-i.invariant (omega arith)
