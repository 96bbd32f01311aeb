-- `batch` meets its contract. The invariant: run is the batch of the c cases passed.
use Rattle.std.proofs.Common.{◌≡◌}
use Rattle.replay_planes.specs.Batches.{batch_of}
use Rattle.replay_planes.proofs.batch.Given as goal

abbrev pub invariant-loop-c : goal.invariant-loop-c
invariant-loop-c l = l.run ≡ batch_of l.stage l.w l.c
