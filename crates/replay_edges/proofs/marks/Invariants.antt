-- `marks` meets its contract. The invariant: d is the digest of the m medians passed.
use Rattle.std.proofs.Common.{◌≡◌}
use Rattle.replay_edges.specs.Edges.{marks_of}
use Rattle.replay_edges.proofs.marks.Given as goal

abbrev pub invariant-loop-m : goal.invariant-loop-m
invariant-loop-m l = l.d ≡ marks_of l.m
