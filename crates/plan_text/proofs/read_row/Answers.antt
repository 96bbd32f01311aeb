-- `plan_text::read_row` meets its contract: the fields that were taken so far, and those that are left. Assumes nothing.
use mathlib.Core.Path.{◌≡◌, sym, ◌∙◌}
use mathlib.Core.List.{◌∷◌}
use borrow.Author.Tests.{tests}
use Rattle.std.proofs.Common.{rules}
use Rattle.decimal.specs.Parts.{parted}
use Rattle.decimal.proofs.Parts.{left, start, next-some, next_none, none_left, some-left}
use Rattle.plan_text.proofs.Fields.{row_from, no_from, no_second, no_to, no_third, no_threshold, one_more, the_row}
use Rattle.plan_text.proofs.read_row.Goals as goal

pub returns-in_err-from : goal.returns-in_err-from
returns-in_err-from c =
    let s₀ = c.split-fields.result in
    let s₁ = c.next.new.self in
    let first : parted 44 c.args.line.now ≡ c.in_ok-next.field-0.now ∷ left 44 s₁ =
    start 44 c.args.line.now s₀ c.split-fields.ensures.rest c.split-fields.ensures.done
    ∙ next-some 44 _ s₀ s₁ c.in_ok-next.field-0 c.in_ok-next.ensures.steps (λ x b q k. search (rules, tests)) in
    c.from_residual-in_err-from.ensures ∙ no_from _ _ (sym c.read_field.ensures ∙ c.in_err-from.was) ∙ sym (row_from _ _ first)

pub returns-in_err-next-2 : goal.returns-in_err-next-2
returns-in_err-next-2 c =
    let s₀ = c.split-fields.result in
    let s₁ = c.next.new.self in
    let first : parted 44 c.args.line.now ≡ c.in_ok-next.field-0.now ∷ left 44 s₁ =
    start 44 c.args.line.now s₀ c.split-fields.ensures.rest c.split-fields.ensures.done
    ∙ next-some 44 _ s₀ s₁ c.in_ok-next.field-0 c.in_ok-next.ensures.steps (λ x b q k. search (rules, tests)) in
    c.from_residual-in_err-next-2.ensures ∙ no_second _ _ (next_none 44 s₁ c.in_err-next-2.ensures.steps.0) ∙ sym (row_from _ _ first)

pub returns-in_err-to : goal.returns-in_err-to
returns-in_err-to c =
    let s₀ = c.split-fields.result in
    let s₁ = c.next.new.self in
    let first : parted 44 c.args.line.now ≡ c.in_ok-next.field-0.now ∷ left 44 s₁ =
    start 44 c.args.line.now s₀ c.split-fields.ensures.rest c.split-fields.ensures.done
    ∙ next-some 44 _ s₀ s₁ c.in_ok-next.field-0 c.in_ok-next.ensures.steps (λ x b q k. search (rules, tests)) in
    let s₂ = c.next-2.new.self in
    let second : parted 44 c.args.line.now ≡ c.in_ok-next.field-0.now ∷ c.in_ok-next-2.field-0.now ∷ left 44 s₂ =
    rw (next-some 44 _ s₁ s₂ c.in_ok-next-2.field-0 c.in_ok-next-2.ensures.steps (λ x b q k. search (rules, tests))) at first in
    c.from_residual-in_err-to.ensures ∙ no_to _ _ _ (sym c.read_field-2.ensures ∙ c.in_err-to.was) ∙ sym (row_from _ _ second)

pub returns-in_err-next-3 : goal.returns-in_err-next-3
returns-in_err-next-3 c =
    let s₀ = c.split-fields.result in
    let s₁ = c.next.new.self in
    let first : parted 44 c.args.line.now ≡ c.in_ok-next.field-0.now ∷ left 44 s₁ =
    start 44 c.args.line.now s₀ c.split-fields.ensures.rest c.split-fields.ensures.done
    ∙ next-some 44 _ s₀ s₁ c.in_ok-next.field-0 c.in_ok-next.ensures.steps (λ x b q k. search (rules, tests)) in
    let s₂ = c.next-2.new.self in
    let second : parted 44 c.args.line.now ≡ c.in_ok-next.field-0.now ∷ c.in_ok-next-2.field-0.now ∷ left 44 s₂ =
    rw (next-some 44 _ s₁ s₂ c.in_ok-next-2.field-0 c.in_ok-next-2.ensures.steps (λ x b q k. search (rules, tests))) at first in
    c.from_residual-in_err-next-3.ensures ∙ no_third _ _ _ (next_none 44 s₂ c.in_err-next-3.ensures.steps.0) ∙ sym (row_from _ _ second)

pub returns-in_err-threshold : goal.returns-in_err-threshold
returns-in_err-threshold c =
    let s₀ = c.split-fields.result in
    let s₁ = c.next.new.self in
    let first : parted 44 c.args.line.now ≡ c.in_ok-next.field-0.now ∷ left 44 s₁ =
    start 44 c.args.line.now s₀ c.split-fields.ensures.rest c.split-fields.ensures.done
    ∙ next-some 44 _ s₀ s₁ c.in_ok-next.field-0 c.in_ok-next.ensures.steps (λ x b q k. search (rules, tests)) in
    let s₂ = c.next-2.new.self in
    let second : parted 44 c.args.line.now ≡ c.in_ok-next.field-0.now ∷ c.in_ok-next-2.field-0.now ∷ left 44 s₂ =
    rw (next-some 44 _ s₁ s₂ c.in_ok-next-2.field-0 c.in_ok-next-2.ensures.steps (λ x b q k. search (rules, tests))) at first in
    let s₃ = c.next-3.new.self in
    let third : parted 44 c.args.line.now ≡ c.in_ok-next.field-0.now ∷ c.in_ok-next-2.field-0.now ∷ c.in_ok-next-3.field-0.now ∷ left 44 s₃ =
    rw (next-some 44 _ s₂ s₃ c.in_ok-next-3.field-0 c.in_ok-next-3.ensures.steps (λ x b q k. search (rules, tests))) at second in
    c.from_residual-in_err-threshold.ensures ∙ no_threshold _ _ _ _ (sym c.read_field-3.ensures ∙ c.in_err-threshold.was) ∙ sym (row_from _ _ third)

pub returns-then-is_some : goal.returns-then-is_some
returns-then-is_some c =
    let s₀ = c.split-fields.result in
    let s₁ = c.next.new.self in
    let first : parted 44 c.args.line.now ≡ c.in_ok-next.field-0.now ∷ left 44 s₁ =
    start 44 c.args.line.now s₀ c.split-fields.ensures.rest c.split-fields.ensures.done
    ∙ next-some 44 _ s₀ s₁ c.in_ok-next.field-0 c.in_ok-next.ensures.steps (λ x b q k. search (rules, tests)) in
    let s₂ = c.next-2.new.self in
    let second : parted 44 c.args.line.now ≡ c.in_ok-next.field-0.now ∷ c.in_ok-next-2.field-0.now ∷ left 44 s₂ =
    rw (next-some 44 _ s₁ s₂ c.in_ok-next-2.field-0 c.in_ok-next-2.ensures.steps (λ x b q k. search (rules, tests))) at first in
    let s₃ = c.next-3.new.self in
    let third : parted 44 c.args.line.now ≡ c.in_ok-next.field-0.now ∷ c.in_ok-next-2.field-0.now ∷ c.in_ok-next-3.field-0.now ∷ left 44 s₃ =
    rw (next-some 44 _ s₂ s₃ c.in_ok-next-3.field-0 c.in_ok-next-3.ensures.steps (λ x b q k. search (rules, tests))) at second in
    let more =
    some-left 44 _ s₃ c.next-4.new.self c.next-4.result c.next-4.ensures.steps (sym c.is_some.ensures ∙ c.if-is_some.true) (λ x b q k. search (rules, tests)) in
    one_more _ _ _ _ _ _ more.1 ∙ sym (row_from _ _ third)

pub returns : goal.returns
returns c =
    let s₀ = c.split-fields.result in
    let s₁ = c.next.new.self in
    let first : parted 44 c.args.line.now ≡ c.in_ok-next.field-0.now ∷ left 44 s₁ =
    start 44 c.args.line.now s₀ c.split-fields.ensures.rest c.split-fields.ensures.done
    ∙ next-some 44 _ s₀ s₁ c.in_ok-next.field-0 c.in_ok-next.ensures.steps (λ x b q k. search (rules, tests)) in
    let s₂ = c.next-2.new.self in
    let second : parted 44 c.args.line.now ≡ c.in_ok-next.field-0.now ∷ c.in_ok-next-2.field-0.now ∷ left 44 s₂ =
    rw (next-some 44 _ s₁ s₂ c.in_ok-next-2.field-0 c.in_ok-next-2.ensures.steps (λ x b q k. search (rules, tests))) at first in
    let s₃ = c.next-3.new.self in
    let third : parted 44 c.args.line.now ≡ c.in_ok-next.field-0.now ∷ c.in_ok-next-2.field-0.now ∷ c.in_ok-next-3.field-0.now ∷ left 44 s₃ =
    rw (next-some 44 _ s₂ s₃ c.in_ok-next-3.field-0 c.in_ok-next-3.ensures.steps (λ x b q k. search (rules, tests))) at second in
    let none = none_left 44 _ s₃ c.next-4.new.self c.next-4.result c.next-4.ensures.steps (sym c.is_some.ensures ∙ c.if-is_some.false) in
    the_row _ _ _ _ _ _ _ none (sym c.read_field.ensures ∙ c.in_ok-from.was)
    (sym c.read_field-2.ensures ∙ c.in_ok-to.was) (sym c.read_field-3.ensures ∙ c.in_ok-threshold.was)
    ∙ sym (row_from _ _ third)
