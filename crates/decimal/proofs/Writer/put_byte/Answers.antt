-- `decimal::Writer::put_byte` meets its contract. Assumes nothing.
use mathlib.Core.Path.{refl}
use native.Mathlib.Omega.{arith}
use lib.ListN.{length-set}
use Rattle.decimal.proofs.Writes.{placed-byte}
use Rattle.decimal.proofs.Writer.put_byte.Goals as goal

pub returns : goal.returns
returns c =
    let w = c.args.self.now in
    record { memory = placed-byte w.out.now w.at c.args.b (omega arith); place = refl; size = length-set w.out.now w.at c.args.b; same = refl }
