-- `window::cap` meets its contract: the literal's bits are 255. Assumes nothing.
use lib.Ieee.{of_int, of_bits}
use denote.Floats.{passes}
use Rattle.window.proofs.Capped.{min-is}
use Rattle.window.proofs.cap.Goals as goal

pub returns : goal.returns
unfolding of_int of_bits
returns c = min-is _ _ (passes _ c.well_formed.0.1) c.min.ensures.value c.min.ensures.unequal
