use mathlib.Core.Path.{◌∙◌}
use Prim.Native.Nat.{◌/◌}
use native.Mathlib.Omega.{arith}
use lib.Dec.{eqb}
use lib.ListN.{length}
use Rattle.canny_marks.proofs.Counts.{groups-small, tallied-groups, tallied-more, tallied-small, tallied-all}
use Rattle.canny_marks.proofs.histogram.Goals as goal

pub sums-hist-requires : goal.sums-hist-requires
sums-hist-requires c v h =
    let buf = c.args.buf.now in
    omega (arith, c.count_fours.ensures v h, groups-small (λ b. eqb b v) 4 (length buf / 4) buf _ c.as_chunks.ensures.front)

pub loop-b-init : goal.loop-b-init
loop-b-init c =
    tallied-groups 4 (length c.args.buf.now / 4) _ c.as_chunks.ensures.front (omega arith) (omega arith)
    (λ v h. c.sums-hist.ensures v h ∙ c.count_fours.ensures v h)

pub overflow_add-hist : goal.overflow_add-hist
overflow_add-hist c = omega (arith, tallied-small c.loop-b.invariant (omega (arith, c.as_chunks.ensures.back_len)) c.from.result (omega arith))

pub loop-b-preserved : goal.loop-b-preserved
loop-b-preserved c = tallied-more _ _ _ c.loop-b.invariant c.as_chunks.ensures.back c.loop-b-test.true c.from.ensures (omega arith)

pub returns : goal.returns
returns c = tallied-all c.loop-b.invariant (omega (arith, c.as_chunks.ensures.back_len))
