-- `decimal::Writer::put_number` meets its contract. Assumes nothing.
use mathlib.Core.Path.{◌≡◌, ◌∙◌}
use Rattle.decimal.specs.Writing.{decimal}
use Rattle.decimal.proofs.Printed.{number_printed}
use Rattle.decimal.proofs.Writer.put_number.Goals as goal

pub returns : goal.returns
returns c =
    let text : c.as_bytes.result.now ≡ decimal c.args.n = c.as_bytes.ensures.value ∙ c.format.ensures.text ∙ number_printed c.args.n c.ranges.n.fits in
    rw (← text) c.put_text.ensures
