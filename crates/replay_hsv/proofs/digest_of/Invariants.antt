-- `replay_hsv::digest_of` meets its contract. The invariant: d is the digest of the i pixels passed.
use Rattle.std.proofs.Common.{◌≡◌}
use Rattle.replay_hsv.specs.Pixels.{digest_of}
use Rattle.replay_hsv.proofs.digest_of.Given as goal

abbrev pub invariant-loop-i : goal.invariant-loop-i
invariant-loop-i l = l.d ≡ digest_of l.first l.i
