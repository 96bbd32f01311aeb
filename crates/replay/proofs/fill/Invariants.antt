-- The invariant: the run is written below the index, and now is the number after as many steps.
use Rattle.std.proofs.Common.{◌≡◌, ◌+◌, length}
use Rattle.laws.proofs.Tab.{Filled}
use Rattle.replay.specs.Generator.{shade_of, byte_of, after}
use Rattle.replay.proofs.fill.Given as goal

abbrev pub invariant-loop-place : goal.invariant-loop-place
invariant-loop-place l =
    (l.now ≡ after l.place-index l.x) × Filled 0 (λ k. shade_of (byte_of (after (k + 1) l.x)) l.kind) (length l.initial.dst) l.place-index l.dst
