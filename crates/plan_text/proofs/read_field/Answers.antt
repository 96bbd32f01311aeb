-- `plan_text::read_field` meets its contract. Assumes nothing.
use mathlib.Core.Path.{sym, ◌∙◌}
use native.Mathlib.Omega.{arith}
use Rattle.decimal.proofs.Numbers.{number-within}
use Rattle.plan_text.proofs.Fields.{field_refused, field_number}
use Rattle.plan_text.proofs.read_field.Goals as goal

pub returns-then-leads_with_zero : goal.returns-then-leads_with_zero
returns-then-leads_with_zero c = field_refused _ (sym c.leads_with_zero.ensures ∙ c.if-leads_with_zero.true)

pub returns-in_err-n : goal.returns-in_err-n
returns-in_err-n c =
    c.from_residual.ensures ∙ sym (field_number _ (sym c.leads_with_zero.ensures ∙ c.if-leads_with_zero.false) ∙ sym c.read_number.ensures ∙ c.in_err-n.was)

pub overflow_cast-result : goal.overflow_cast-result
overflow_cast-result c =
    let small = number-within 255 c.in_ok-n.n _ (sym c.read_number.ensures ∙ c.in_ok-n.was) in
    record { fits = omega arith }

pub returns : goal.returns
returns c = sym (field_number _ (sym c.leads_with_zero.ensures ∙ c.if-leads_with_zero.false) ∙ sym c.read_number.ensures ∙ c.in_ok-n.was)
