-- `state::refused` meets its contract: the constants are the NaN.
use lib.Ieee.{of_bits}
use Rattle.compare_adaptive_lists.specs.State.{refused_by}
use Rattle.compare_adaptive_lists.proofs.state.refused.Goals as goal

pub returns-in-2 : goal.returns-in-2
unfolding refused_by of_bits
returns-in-2 c = simp (c.in-2.is, c.with_adaptive_threshold.ensures)

pub returns-in-3 : goal.returns-in-3
unfolding refused_by of_bits
returns-in-3 c = simp (c.in-3.is, c.with_min_content_val.ensures)
