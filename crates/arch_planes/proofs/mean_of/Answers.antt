-- `arch_planes::mean_of` meets its contract: each return is a case of the definition's test.
use borrow.Author.Tests.{eq-eqb, ne_eqb}
use lib.Ieee.{of_int, of_bits}
use Rattle.arch_planes.specs.Difference.{mean_of}
use Rattle.arch_planes.proofs.mean_of.Goals as goal

pub returns-then-n-eq0 : goal.returns-then-n-eq0
unfolding mean_of of_int of_bits
returns-then-n-eq0 c = simp (eq-eqb _ _ c.if-n-eq0.true)

pub returns-else-n-eq0 : goal.returns-else-n-eq0
unfolding mean_of of_int of_bits
returns-else-n-eq0 c = simp (ne_eqb _ _ c.if-n-eq0.false)
