-- The invariant: d has the numbers below the index.
use Rattle.std.proofs.Common.{◌≡◌, take, fold}
use Rattle.replay.proofs.Steps.{word_of}
use Rattle.replay.proofs.Digest.feed_signed.Given as goal

abbrev pub invariant-loop-z : goal.invariant-loop-z
invariant-loop-z l = l.d ≡ fold word_of l.fn.self (take l.z-index l.s)
