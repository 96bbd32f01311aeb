use Rattle.std.proofs.Common.{arith}
use Rattle.luma_median.proofs.Rows.{rows_none, rows_more, rows_small}
use Rattle.luma_median.proofs.count_rows.Goals as goal

pub loop-y-init : goal.loop-y-init
loop-y-init c = rows_none c.args.plane.now c.args.w c.args.stride

pub add_row-requires : goal.add_row-requires
add_row-requires c = λ v h.
    let s = c.args in
    let inside = c.requires.by_index c.loop-y.y c.loop-y-test.true in
    omega (arith, c.requires.size, rows_small s.plane.now s.w s.h c.loop-y.y s.stride v c.loop-y.invariant c.loop-y-test.true h inside)

pub loop-y-preserved : goal.loop-y-preserved
loop-y-preserved c =
    let s = c.args in
    rows_more s.plane.now s.w c.loop-y.y s.stride c.loop-y.invariant (c.requires.by_index c.loop-y.y c.loop-y-test.true) c.add_row.ensures
