use Rattle.std.proofs.Common.{add-one}
use Rattle.replay_edges.specs.Edges.{windows_of}
use Rattle.replay_edges.proofs.windows.Goals as goal

pub loop-c-init : goal.loop-c-init
unfolding windows_of
loop-c-init c = c.empty-d.ensures

pub loop-c-preserved : goal.loop-c-preserved
unfolding windows_of
loop-c-preserved c = rw (add-one c.loop-c.c, ← c.loop-c.invariant, ← c.auto_kernel_size.ensures) c.word-d.ensures
