use native.Mathlib.Omega.{arith}
use Rattle.laws.proofs.Tab.{filled_more}
use Rattle.arch_hsv.specs.Hsv.{value, delta}
use Rattle.arch_hsv.specs.Blocks.{sixths}
use Rattle.arch_hsv.proofs.Pixels.{pixel-is}
use Rattle.arch_hsv.proofs.Block.measure.Goals as goal

pub loop-x-preserved : goal.loop-x-preserved
loop-x-preserved c =
    let row = c.args.row.now in
    let x = c.loop-x.x in
    let i = c.loop-x.invariant in
    let p = c.parts-p.ensures in
    let cut = c.as_chunks.ensures.front in
    record {
      v = filled_more _ i.v (omega arith) (pixel-is value row _ _ x _ cut (omega arith) p.v);
      d = filled_more _ i.d (omega arith) (pixel-is delta row _ _ x _ cut (omega arith) p.d);
      k = filled_more _ i.k (omega arith) (pixel-is sixths row _ _ x _ cut (omega arith) p.k);
    }
