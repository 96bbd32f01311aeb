-- `decimal::Writer::put_stamp` meets its contract. Assumes nothing.
use mathlib.Core.Path.{◌≡◌, ap, ◌∙◌}
use Rattle.std.specs.Fmt as fmt
use Rattle.std.proofs.Common.{rules}
use mir.Syntax.{w64}
use mir.ValLaws.{to_z-of_z}
use Rattle.decimal.specs.Writing.{stamp_text}
use Rattle.decimal.proofs.Printed.{stamp_printed}
use Rattle.decimal.proofs.Writer.put_stamp.Goals as goal

pub returns : goal.returns
returns c =
    let z = c.args.ts.micros in
    let text : c.as_bytes.result.now ≡ stamp_text z = c.as_bytes.ensures.value ∙ c.format.ensures.text ∙ ap fmt.signed_decimal (to_z-of_z w64 z (search rules)) ∙ stamp_printed z (search rules) in
    rw (← text) c.put_text.ensures
