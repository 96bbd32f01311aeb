-- `plan_text::put_cell` meets its contract: a number, and a byte after it. Assumes nothing.
use mathlib.Core.Path.{◌≡◌, ◌∙◌}
use native.Mathlib.Omega.{arith}
use Rattle.decimal.specs.Writing.{decimal}
use Rattle.decimal.proofs.Printed.{number_printed}
use Rattle.decimal.proofs.Writes.{wrote_next}
use Rattle.plan_text.proofs.put_cell.Goals as goal

pub returns : goal.returns
returns c =
    let text : c.as_bytes.result.now ≡ decimal c.args.n =
    c.as_bytes.ensures.value ∙ c.format.ensures.text ∙ number_printed c.args.n (omega (arith, c.ranges.n.fits)) in
    rw (← text) (wrote_next (omega arith) c.put_text.ensures c.put_byte.ensures)
