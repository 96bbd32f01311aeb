-- `state::settings` meets its contract: each value is what its function gives.
use lib.Ieee.{div, sub, of_int, of_bits}
use Rattle.compare_adaptive_lists.specs.State.{settings_of}
use Rattle.compare_adaptive_lists.proofs.state.settings.Goals as goal

pub returns : goal.returns
unfolding settings_of div sub of_int of_bits
returns c = simp (c.initial_cut.ensures, c.kernel.ensures, c.weights.ensures, c.threshold-2.ensures, c.byte-5.ensures.value, c.window_width.ensures, c.byte-4.ensures.value, c.minimum.ensures, c.threshold.ensures, c.byte-3.ensures.value, c.byte-2.ensures.value, c.byte.ensures.value)
