-- `windows` meets its contract. The invariant: d is the digest of the c sizes passed.
use Rattle.std.proofs.Common.{◌≡◌}
use Rattle.replay_edges.specs.Edges.{windows_of}
use Rattle.replay_edges.proofs.windows.Given as goal

abbrev pub invariant-loop-c : goal.invariant-loop-c
invariant-loop-c l = l.d ≡ windows_of l.c
