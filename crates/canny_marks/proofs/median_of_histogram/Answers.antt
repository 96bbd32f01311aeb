use Rattle.std.proofs.Common.{arith}
use Rattle.canny_marks.proofs.Counts.{below-zero, below_step, below_all}
use Rattle.canny_marks.proofs.Sorted.{median-is, median-none}
use Rattle.canny_marks.proofs.median_of_histogram.Goals as goal

pub loop-v-init : goal.loop-v-init
loop-v-init c = λ luma e n. omega (arith, below-zero luma)

pub returns-then-before-count : goal.returns-then-before-count
returns-then-before-count c = λ luma bytes e n.
    let so_far = c.loop-v.invariant luma e n in
    median-is luma _ (omega arith) (omega (arith, below_step luma _ _ e c.loop-v-test.true))

pub loop-v-preserved : goal.loop-v-preserved
loop-v-preserved c = λ luma e n.
    let so_far = c.loop-v.invariant luma e n in
    omega (arith, below_step luma _ _ e c.loop-v-test.true)

pub returns : goal.returns
returns c = λ luma bytes e n.
    let so_far = c.loop-v.invariant luma e n in
    median-none luma (omega (arith, below_all c.loop-v.v luma (λ i h. omega (arith, bytes i h))))
