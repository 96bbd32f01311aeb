use Rattle.std.proofs.Common.{arith}
use Rattle.replay.proofs.Steps.{signed_all}
use Rattle.replay.proofs.Digest.feed_signed.Goals as goal

pub returns : goal.returns
returns c = signed_all _ _ _ c.loop-z.z-index c.loop-z.invariant (omega arith)
