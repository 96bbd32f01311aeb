use borrow.Author.Rules.{rules}
use borrow.Author.Tests.{tests}
use denote.Param.Always.{mut_total}
use mathlib.Core.Path.{refl, sym, ◌∙◌}
use native.Mathlib.Omega.{arith}
use Rattle.std.proofs.Common.{◌≡◌, Some}
use Rattle.plan_text.specs.Text.{row_before, rows_read}
use Rattle.plan_text.proofs.Texts.{piece, whole_line, open_line, taken_none, taken_more, taken_bad, taken_full, taken_all}
use Rattle.plan_text.proofs.read_plan.Goals as goal

pub loop-line-init : goal.loop-line-init
loop-line-init c = (mut_total _ _ (λ p x. tt), (tt, taken_none _ _ _ (cc) refl))

pub returns-in_err-line : goal.returns-in_err-line
returns-in_err-line c =
    let P = piece c.loop-line.line-iterator c.next.new.self c.in-Some.line.now c.in-Some.ensures.steps (λ x b q k. search (rules, tests)) in
    c.from_residual.ensures ∙ taken_bad _ _ _ _ c.loop-line.invariant.1.1 (open_line _ _ _ P c.in_err-line.ensures.cases)

pub returns-in_err-row : goal.returns-in_err-row
returns-in_err-row c =
    let P = piece c.loop-line.line-iterator c.next.new.self c.in-Some.line.now c.in-Some.ensures.steps (λ x b q k. search (rules, tests)) in
    let line = whole_line _ _ _ P c.in_ok-line.line.now c.in_ok-line.ensures.cases.0 c.in_ok-line.ensures.cases.1 in
    c.from_residual-in_err-row.ensures ∙ taken_bad _ _ _ _ c.loop-line.invariant.1.1 (line ∙ rw (sym c.read_row.ensures ∙ c.in_err-row.was) refl)

pub returns-then-n-eq-MOST_ROWS : goal.returns-then-n-eq-MOST_ROWS
returns-then-n-eq-MOST_ROWS c =
    let P = piece c.loop-line.line-iterator c.next.new.self c.in-Some.line.now c.in-Some.ensures.steps (λ x b q k. search (rules, tests)) in
    let line = whole_line _ _ _ P c.in_ok-line.line.now c.in_ok-line.ensures.cases.0 c.in_ok-line.ensures.cases.1 in
    let row : rows_read c.loop-line.line-iterator.rest.now ≡ row_before (Some c.in_ok-row.row) (rows_read c.next.new.self.rest.now) =
    line ∙ rw (sym c.read_row.ensures ∙ c.in_ok-row.was) refl in
    taken_full _ _ _ _ c.loop-line.invariant.1.1 _ _ c.if-n-eq-MOST_ROWS.true row

pub loop-line-preserved : goal.loop-line-preserved
loop-line-preserved c =
    let P = piece c.loop-line.line-iterator c.next.new.self c.in-Some.line.now c.in-Some.ensures.steps (λ x b q k. search (rules, tests)) in
    let line = whole_line _ _ _ P c.in_ok-line.line.now c.in_ok-line.ensures.cases.0 c.in_ok-line.ensures.cases.1 in
    let row : rows_read c.loop-line.line-iterator.rest.now ≡ row_before (Some c.in_ok-row.row) (rows_read c.next.new.self.rest.now) =
    line ∙ rw (sym c.read_row.ensures ∙ c.in_ok-row.was) refl in
    (search rules, (search rules, taken_more _ _ _ _ c.loop-line.invariant.1.1 _ _ (omega arith) row))

pub returns : goal.returns
returns c =
    c.of.ensures ∙ taken_all _ _ _ _ c.loop-line.invariant.1.1 c.in-None.ensures.steps.0
