-- `arch_hsv::saturation` meets its contract. Assumes nothing.
use Prim.Native.Nat.{◌*◌}
use native.Mathlib.Omega.{arith}
use Rattle.arch_hsv.proofs.Reading.{rounded-most}
use Rattle.arch_hsv.proofs.saturation.Goals as goal

pub overflow_cast-result : goal.overflow_cast-result
overflow_cast-result c =
    let a = c.args in
    omega (arith, rounded-most (255 * a.d) a.v 255 (omega arith))
