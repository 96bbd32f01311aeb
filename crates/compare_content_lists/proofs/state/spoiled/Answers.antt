-- `state::spoiled` meets its contract: the constant is the NaN.
use lib.Ieee.{of_bits}
use Rattle.compare_content_lists.specs.State.{spoiled_by}
use Rattle.compare_content_lists.proofs.state.spoiled.Goals as goal

pub returns-in-2 : goal.returns-in-2
unfolding spoiled_by of_bits
returns-in-2 c = simp c.in-2.is
