use Prim.Native.Nat.{◌+◌}
use native.Mathlib.Omega.{arith}
use Rattle.laws.proofs.Int.{back32}
use Rattle.laws.proofs.Tab.{filled_more, filled-all}
use Rattle.arch_sobel.proofs.Inner.{is-inner, dir-inner}
use Rattle.arch_sobel.proofs.Plane.directions.Goals as goal

pub loop-j-preserved : goal.loop-j-preserved
loop-j-preserved c =
    let a = c.args in
    let p = a.self in
    let x = a.x + c.loop-j.j in
    let g = c.gradient-g in
    let i = is-inner {w = p.w} {h = p.h} {x = x} {y = a.y} (record { left = omega arith; right = omega arith; top = omega arith; bottom = omega arith }) in
    -- a gradient reaches `direction` as `to_z w32 (of_z w32 g)`
    let gx = back32 g.result.gx (omega arith) in
    let gy = back32 g.result.gy (omega arith) in
    filled_more _ c.loop-j.invariant (omega arith) (dir-inner p.bytes.now p.w p.h x a.y i g.ensures.gx g.ensures.gy (rw (gx, gy) at c.direction.ensures))

pub returns : goal.returns
returns c = filled-all c.loop-j.invariant c.loop-j-test.false
