-- `plan_text::read` meets its contract. Assumes nothing.
use mathlib.Core.Path.{◌≡◌, sym, ◌∙◌}
use Rattle.std.proofs.Common.{rules}
use Rattle.plan_text.specs.Text.{text_refusal}
use Rattle.plan_text.proofs.Plans.{not_read, was_read}
use Rattle.plan_text.proofs.read.Goals as goal

pub returns-in_err-plan-clause-number : goal.returns-in_err-plan-clause-number
returns-in_err-plan-clause-number c =
    let none : text_refusal c.args.text.now ≡ 20 = not_read _ (sym c.read_plan.ensures ∙ c.in_err-plan.ensures.ok_part) in
    rw none (search rules)

pub returns-in_err-check-clause-number : goal.returns-in_err-check-clause-number
returns-in_err-check-clause-number c =
    let read = was_read _ _ (sym c.read_plan.ensures ∙ c.in_ok-plan.ensures.ok_part) in
    rw (← read.refusal, ← c.in_err-check.ensures) (search rules)

pub returns-clause-number : goal.returns-clause-number
returns-clause-number c =
    let read = was_read _ _ (sym c.read_plan.ensures ∙ c.in_ok-plan.ensures.ok_part) in
    c.in_ok-check.ensures ∙ read.refusal
