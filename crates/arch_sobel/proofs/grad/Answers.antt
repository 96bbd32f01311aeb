use native.Mathlib.Omega.{arith}
use lib.IntN.{pos, ◌-ℤ◌}
use Rattle.laws.proofs.Int.{back32, pos32, abs-minus}
use Rattle.arch_sobel.specs.Inner.{grad}
use Rattle.arch_sobel.proofs.grad.Goals as goal

pub returns-clause-value : goal.returns-clause-value
unfolding grad
returns-clause-value c =
    let a = c.smooth.result in
    let b = c.smooth-2.result in
    rw (pos32 a (omega arith), pos32 b (omega arith), back32 (pos a -ℤ pos b) (omega (arith, abs-minus a b)), c.smooth.ensures.value, c.smooth-2.ensures.value)
