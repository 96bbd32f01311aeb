use Prim.Native.Nat.{◌*◌}
use native.Mathlib.Nat.{mul-le-mul_right, mul-div_cancel_left}
use native.Mathlib.Omega.{arith}
use Rattle.laws.proofs.Planes.{width}
use Rattle.laws.proofs.Parts.{length_part}
use Rattle.laws.proofs.Thirds.{thirds-all}
use Rattle.arch_hsv.specs.Hsv.{hsv_planes}
use Rattle.arch_hsv.proofs.Stored.{rows-stored-more}
use Rattle.arch_hsv.proofs.bgr_to_hsv_planes.Goals as goal

pub loop-y-preserved : goal.loop-y-preserved
loop-y-preserved c =
    let a = c.args in
    let y = c.loop-y.y in
    let size = length_part (y * a.stride) (3 * a.w) a.src.now (c.requires.by_index y c.loop-y-test.true) in
    let stored = rw (width (y * a.stride) (3 * a.w), size, mul-div_cancel_left a.w {n = 3} (omega arith)) at c.bgr_to_hsv_row.ensures in
    rows-stored-more _ _ _ a.stride _ _ _ c.loop-y.invariant c.loop-y-test.true stored

pub returns : goal.returns
unfolding hsv_planes
returns c = thirds-all c.loop-y.invariant (omega (arith, mul-le-mul_right c.args.w c.loop-y-test.false))
