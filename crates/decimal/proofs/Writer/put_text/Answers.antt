-- `decimal::Writer::put_text` meets its contract. Assumes nothing.
use mathlib.Core.Path.{refl, ap, ◌∙◌}
use lib.ListN.{length}
use Rattle.decimal.proofs.Writes.{placed-part, length-placed}
use Rattle.decimal.proofs.Writer.put_text.Goals as goal

pub returns : goal.returns
returns c =
    let w = c.args.self.now in
    let part = placed-part w.out.now w.at c.args.text.now _ c.copy_from_slice.ensures.after in
    record { memory = part; place = refl; size = ap length part ∙ length-placed w.out.now w.at c.args.text.now c.requires; same = refl }
