use mathlib.Core.Path.{◌∙◌}
use native.Mathlib.Omega.{arith}
use Rattle.laws.proofs.Int.{back32}
use Rattle.arch_sobel.proofs.Steps.{across-is, down-is}
use Rattle.arch_sobel.proofs.Plane.gradient.Goals as goal

-- a gradient is stored as `to_z w32 (of_z w32 g)`
pub returns-clause-gx : goal.returns-clause-gx
returns-clause-gx c =
    let a = c.args in
    let p = a.self in
    let g = c.grad-gx in
    back32 g.result (omega (arith, g.ensures.bound)) ∙ g.ensures.value ∙ across-is p.bytes.now p.w a.x a.y c.requires.left c.requires.top

pub returns-clause-gy : goal.returns-clause-gy
returns-clause-gy c =
    let a = c.args in
    let p = a.self in
    let g = c.grad-gy in
    back32 g.result (omega (arith, g.ensures.bound)) ∙ g.ensures.value ∙ down-is p.bytes.now p.w a.x a.y c.requires.left c.requires.top
