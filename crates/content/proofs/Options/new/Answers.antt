-- `content::Options::new` meets its contract: the Rust's defaults.
use lib.Ieee.{of_int, of_bits}
use Rattle.content.proofs.Options.new.Goals as goal

pub returns : goal.returns
unfolding of_int of_bits
returns c = rw (c.default.ensures, c.none.ensures)
