use Rattle.std.proofs.Common.{arith}
use Rattle.replay.proofs.Steps.{fed_all}
use Rattle.replay.proofs.Digest.feed.Goals as goal

pub returns : goal.returns
returns c = fed_all _ _ _ c.loop-byte.byte-index c.loop-byte.invariant (omega arith)
