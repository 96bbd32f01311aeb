-- The invariant: d is the digest of the c lists passed.
use Rattle.std.proofs.Common.{◌≡◌}
use Rattle.replay_filter.specs.Lists.{batch_of}
use Rattle.replay_filter.proofs.batch.Given as goal

abbrev pub invariant-loop-c : goal.invariant-loop-c
invariant-loop-c l = l.d ≡ batch_of l.b l.c
