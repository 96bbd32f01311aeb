use mathlib.Core.Path.{refl}
use native.Mathlib.Omega.{arith}
use Rattle.canny_marks.proofs.Counts.{four-none, four-one, four-small, four-more}
use Rattle.canny_marks.proofs.count_fours.Goals as goal

pub loop-a-init : goal.loop-a-init
loop-a-init c = four-none refl

pub overflow_add-counts-in-loop-a-2 : goal.overflow_add-counts-in-loop-a-2
overflow_add-counts-in-loop-a-2 c =
    let one = four-one c.from.result 0 c.loop-a.invariant (omega arith) (omega arith) in
    let two = four-one c.from-in-loop-a.result 1 one (omega arith) (omega arith) in
    omega (arith, four-small two c.from-in-loop-a-2.result 2 (omega arith) (omega arith))

pub overflow_add-counts-in-loop-a-3 : goal.overflow_add-counts-in-loop-a-3
overflow_add-counts-in-loop-a-3 c =
    let one = four-one c.from.result 0 c.loop-a.invariant (omega arith) (omega arith) in
    let two = four-one c.from-in-loop-a.result 1 one (omega arith) (omega arith) in
    let three = four-one c.from-in-loop-a-2.result 2 two (omega arith) (omega arith) in
    omega (arith, four-small three c.from-in-loop-a-3.result 3 (omega arith) (omega arith))

pub loop-a-preserved : goal.loop-a-preserved
loop-a-preserved c =
    four-more _ _ _ _ _ _ c.loop-a.invariant c.loop-a-test.true (c.told-fours _ c.loop-a-test.true) c.from.ensures c.from-in-loop-a.ensures
    c.from-in-loop-a-2.ensures c.from-in-loop-a-3.ensures (omega arith) (omega arith) (omega arith) (omega arith)
