-- `state::settings` meets its contract: each value is what its function gives.
use lib.Ieee.{div, of_int, of_bits}
use Rattle.compare_content_lists.specs.State.{settings_of}
use Rattle.compare_content_lists.proofs.state.settings.Goals as goal

pub returns : goal.returns
unfolding settings_of div of_int of_bits
returns c = simp (c.initial_cut.ensures, c.kernel.ensures, c.filter_mode.ensures, c.byte-3.ensures.value, c.weights.ensures, c.minimum.ensures, c.plan_by.ensures, c.byte-4.ensures.value, c.byte-5.ensures.value, c.byte-6.ensures.value, c.threshold.ensures, c.byte-2.ensures.value, c.byte.ensures.value)
