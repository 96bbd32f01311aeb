use Rattle.std.proofs.Common.{add-one}
use Rattle.replay_hsv.specs.Pixels.{digest_of}
use Rattle.replay_hsv.proofs.digest_of.Goals as goal

pub loop-i-init : goal.loop-i-init
unfolding digest_of
loop-i-init c = c.empty-d.ensures

pub loop-i-preserved : goal.loop-i-preserved
unfolding digest_of
loop-i-preserved c = rw (add-one c.loop-i.i, ← c.loop-i.invariant) c.pixel-d.ensures
