use mathlib.Core.Path.{sym}
use lib.Ieee.{neg, of_int, of_bits}
use Rattle.compare_lists.specs.Records.{weights_of}
use Rattle.compare_lists.proofs.input.weights.Goals as goal

pub returns-in-2 : goal.returns-in-2
unfolding weights_of neg of_int of_bits
returns-in-2 c = simp (sym c.byte-2.ensures.value, c.in-2.is, c.new.ensures, c.weight-edges.ensures, c.byte.ensures.value)

pub returns-in-3 : goal.returns-in-3
unfolding weights_of neg of_int of_bits
returns-in-3 c = simp (sym c.byte-2.ensures.value, c.in-3.is, c.new-in-3.ensures, c.weight-edges.ensures, c.byte.ensures.value)
