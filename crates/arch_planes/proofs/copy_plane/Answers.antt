use mathlib.Core.Path.{◌∙◌}
use Prim.Native.Nat.{◌*◌}
use Rattle.laws.proofs.Parts.{part-tabulate}
use Rattle.laws.proofs.Planes.{width, rows_more, rows_all}
use Rattle.arch_planes.specs.Packed.{packed}
use Rattle.arch_planes.proofs.copy_plane.Goals as goal

-- row y is now the part of src that was copied to it
pub loop-y-preserved : goal.loop-y-preserved
loop-y-preserved c =
    let y = c.loop-y.y in
    let s = c.args in
    let copied = rw (width (y * s.stride) s.w) at c.copy_from_slice.ensures.after in
    rows_more c.loop-y.invariant c.loop-y-test.true
    (copied ∙ part-tabulate (y * s.stride) s.w s.src.now 0 (c.requires.by_index y c.loop-y-test.true))

pub returns : goal.returns
unfolding packed
returns c = rows_all c.loop-y.invariant c.loop-y-test.false
