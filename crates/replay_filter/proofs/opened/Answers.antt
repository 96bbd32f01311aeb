-- `opened` meets its contract: five draws and the settings call.
use Rattle.replay_filter.specs.Lists.{opened_of}
use Rattle.replay_filter.proofs.opened.Goals as goal

pub returns-clause-value : goal.returns-clause-value
unfolding opened_of
returns-clause-value c = cc
