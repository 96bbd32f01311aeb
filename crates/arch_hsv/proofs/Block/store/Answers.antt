use mathlib.Core.Path.{refl}
use lib.ListN.{length-set}
use Rattle.arch_hsv.specs.Blocks.{parts_stored}
use Rattle.arch_hsv.proofs.Pixels.{parts_more}
use Rattle.arch_hsv.proofs.Block.store.Goals as goal

pub loop-x-init : goal.loop-x-init
unfolding parts_stored
loop-x-init c = record { size = refl; stored = refl }

pub loop-x-preserved : goal.loop-x-preserved
loop-x-preserved c =
    let i = c.loop-x.invariant in
    record { size = simp length-set i.size; stored = parts_more _ _ _ _ _ _ _ _ _ _ i.stored c.hue.ensures c.saturation.ensures }
