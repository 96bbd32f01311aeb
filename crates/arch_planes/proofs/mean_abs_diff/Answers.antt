-- `arch_planes::mean_abs_diff` meets its contract: the sum, the count, and the mean of the two.
use Rattle.arch_planes.specs.Difference.{mean_abs_diff}
use Rattle.arch_planes.proofs.mean_abs_diff.Goals as goal

pub returns : goal.returns
unfolding mean_abs_diff
returns c = rw (c.mean_of.ensures, c.sum_abs_diff-sum.ensures.value)
