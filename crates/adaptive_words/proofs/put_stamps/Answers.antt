-- `adaptive_words::put_stamps` meets its contract: after the loop all 129 places are written, and read back.
use Rattle.std.proofs.Common.{arith}
use Rattle.adaptive_words.specs.Window.{stamps_words, stamps_of}
use Rattle.adaptive_words.proofs.Places.{placed-all}
use Rattle.adaptive_words.proofs.put_stamps.Goals as goal

pub returns : goal.returns
unfolding stamps_words stamps_of
returns c =
    let both = placed-all c.loop-i.invariant (omega arith) (omega arith) in
    record { after = both.0; back = both.1 }
