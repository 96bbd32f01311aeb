-- The invariant: d has the bytes below the index.
use Rattle.std.proofs.Common.{◌≡◌, take, fold}
use Rattle.replay.specs.Digest.{step_of}
use Rattle.replay.proofs.Digest.feed.Given as goal

abbrev pub invariant-loop-byte : goal.invariant-loop-byte
invariant-loop-byte l = l.d ≡ fold step_of l.fn.self (take l.byte-index l.s)
