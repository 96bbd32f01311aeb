-- `frames::sides` meets its contract. The invariant: d is the digest of the c frames passed.
use Rattle.std.proofs.Common.{◌≡◌}
use Rattle.replay_planes.specs.Batches.{sides_of}
use Rattle.replay_planes.proofs.frames.sides.Given as goal

abbrev pub invariant-loop-c : goal.invariant-loop-c
invariant-loop-c l = l.d ≡ sides_of l.c
