use mathlib.Core.Path.{refl, sym, ◌∙◌}
use native.Mathlib.Omega.{arith}
use lib.ListN.{length}
use Rattle.laws.proofs.Grid.{row-end}
use Rattle.laws.proofs.Int.{back32}
use Rattle.canny_thin.proofs.Under.{block-thinned, block-clear}
use Rattle.canny_thin.proofs.Thinning.class_block.Goals as goal

pub returns-then-not-all_under : goal.returns-then-not-all_under
returns-then-not-all_under c =
    let a = c.args in
    let p = a.self in
    block-thinned p.luma.bytes.now p.mag.now p.luma.w p.luma.h p.low p.high a.x a.y (length a.block.now) _ _ c.directions.ensures c.thin.ensures

pub returns-else-not-all_under : goal.returns-else-not-all_under
returns-else-not-all_under c =
    let a = c.args in
    let p = a.self in
    let back = back32 c.least.result (rw c.least.ensures (omega arith)) in
    let none = rw (back, c.least.ensures) at c.all_under.ensures in
    block-clear p.luma.bytes.now p.mag.now p.luma.w p.luma.h p.low p.high a.x a.y (length a.block.now) _
    (omega (arith, row-end a.y p.luma.w p.luma.h (omega arith))) (sym none ∙ c.if-not-all_under.false) refl c.requires.clear
