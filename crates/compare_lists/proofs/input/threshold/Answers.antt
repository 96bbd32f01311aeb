use lib.Ieee.{neg, of_int, of_bits}
use Rattle.compare_lists.specs.Records.{threshold_of}
use Rattle.compare_lists.proofs.input.threshold.Goals as goal

pub returns-in-0 : goal.returns-in-0
unfolding threshold_of neg of_int of_bits
returns-in-0 c = rw c.in-0.is

pub returns-in-1 : goal.returns-in-1
unfolding threshold_of neg of_int of_bits
returns-in-1 c = rw c.in-1.is

pub returns-in-2 : goal.returns-in-2
unfolding threshold_of neg of_int of_bits
returns-in-2 c = rw c.in-2.is

pub returns-in-3 : goal.returns-in-3
unfolding threshold_of neg of_int of_bits
returns-in-3 c = rw c.in-3.is

pub returns-in-4 : goal.returns-in-4
unfolding threshold_of neg of_int of_bits
returns-in-4 c = rw c.in-4.is
