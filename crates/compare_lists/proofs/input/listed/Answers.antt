-- `input::listed` meets its contract: the constant is the list.
use mathlib.Core.Path.{refl}
use Rattle.compare_lists.specs.Records.{weight_list}
use Rattle.compare_lists.proofs.input.listed.Goals as goal

pub returns : goal.returns
unfolding weight_list
returns c = refl
