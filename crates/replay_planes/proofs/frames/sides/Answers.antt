use Rattle.std.proofs.Common.{add-one}
use Rattle.replay_planes.specs.Batches.{sides_of}
use Rattle.replay_planes.proofs.frames.sides.Goals as goal

pub loop-c-preserved : goal.loop-c-preserved
unfolding sides_of
loop-c-preserved c =
    rw (add-one c.loop-c.c, ← c.loop-c.invariant, ← c.side.ensures, ← c.side-in-loop-c.ensures, ← c.side-in-loop-c-2.ensures) c.checks-d.ensures
