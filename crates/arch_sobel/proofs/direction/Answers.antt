use mir.Facts.{to_z-of_z}
use Rattle.arch_sobel.proofs.Signs.{same-signs}
use Rattle.arch_sobel.proofs.Directions.{by-picks}
use Rattle.arch_sobel.proofs.direction.Goals as goal

-- A signed value reaches a callee's contract as `to_z w32 (of_z w32 g)`.
pub returns : goal.returns
returns c =
    let gx = c.args.gx in
    let gy = c.args.gy in
    let x = to_z-of_z c.ranges.gx in
    let y = to_z-of_z c.ranges.gy in
    let ax = rw x at c.size-ax.ensures in
    let ay = rw y at c.size-ay.ensures in
    let sx = rw x at c.signum.ensures.value in
    let sy = rw y at c.signum-2.ensures.value in
    let slant = rw (sx, sy, same-signs gx gy) at c.pick-slant.ensures in
    by-picks gx gy _ _ _ _ _ ax ay slant c.pick-steep.ensures c.pick.ensures
