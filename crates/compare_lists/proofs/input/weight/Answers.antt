use lib.Ieee.{of_int, of_bits}
use Rattle.compare_lists.specs.Records.{weight_of}
use Rattle.compare_lists.proofs.input.weight.Goals as goal

pub returns-in-252 : goal.returns-in-252
unfolding weight_of of_int of_bits
returns-in-252 c = rw c.in-252.is

pub returns-in-253 : goal.returns-in-253
unfolding weight_of of_int of_bits
returns-in-253 c = rw c.in-253.is

pub returns-in-254 : goal.returns-in-254
unfolding weight_of of_int of_bits
returns-in-254 c = rw c.in-254.is

pub returns-in-255 : goal.returns-in-255
unfolding weight_of of_int of_bits
returns-in-255 c = rw c.in-255.is
