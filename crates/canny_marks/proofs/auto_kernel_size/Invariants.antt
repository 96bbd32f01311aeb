-- `canny_marks::auto_kernel_size` meets its contract. The invariant: the root of `square` is from `root` to below root + gap. Assumes nothing.
use Rattle.canny_marks.proofs.Root.{Between}
use Rattle.canny_marks.proofs.auto_kernel_size.Given as goal

abbrev pub invariant-loop-gap : goal.invariant-loop-gap
invariant-loop-gap l = Between l.square l.root l.gap

abbrev pub decreases-loop-gap : goal.decreases-loop-gap
decreases-loop-gap l = l.gap
