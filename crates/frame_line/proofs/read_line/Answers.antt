use mathlib.Core.Path.{◌≡◌, sym, ◌∙◌}
use mathlib.Core.List.{◌∷◌}
use Prim.Native.Nat.{◌*◌}
use native.Mathlib.Omega.{arith}
use borrow.Author.Tests.{tests}
use Rattle.std.proofs.Common.{rules}
use lib.Seq.{length-take-le}
use Rattle.laws.proofs.Products.{product_le}
use Rattle.decimal.proofs.Numbers.{number-within}
use Rattle.frame_line.specs.Line.{fields}
use Rattle.decimal.proofs.Parts.{left, start, next-some, next_none, none_left, some-left}
use Rattle.frame_line.proofs.Values.{taken_none, taken_more, taken_bad, taken-long, taken-short, taken-all, taken-luma}
use Rattle.frame_line.proofs.Lines.{too_long, no-stamp, no-second, no-width, no-third, no-height, Head, no-pixels, no-values, says-frame, says-luma}
use Rattle.frame_line.proofs.read_line.Goals as goal

pub returns-then-line-gt-MOST_BYTES-clause-value : goal.returns-then-line-gt-MOST_BYTES-clause-value
returns-then-line-gt-MOST_BYTES-clause-value c = too_long _ c.if-line-gt-MOST_BYTES.true

pub returns-in_err-stamp-clause-value : goal.returns-in_err-stamp-clause-value
returns-in_err-stamp-clause-value c =
    let s₀ = c.split-fields.result in
    let s₁ = c.next.new.self in
    let first : fields c.args.line.now ≡ c.in_ok-next.field-0.now ∷ left 44 s₁ =
    start 44 c.args.line.now s₀ c.split-fields.ensures.rest c.split-fields.ensures.done ∙ next-some 44 _ s₀ s₁ c.in_ok-next.field-0 c.in_ok-next.ensures.steps (λ x b q k. search (rules, tests)) in
    c.from_residual-in_err-stamp.ensures ∙ no-stamp _ _ _ first (sym c.read_stamp.ensures ∙ c.in_err-stamp.was)

pub returns-in_err-next-2-clause-value : goal.returns-in_err-next-2-clause-value
returns-in_err-next-2-clause-value c =
    let s₀ = c.split-fields.result in
    let s₁ = c.next.new.self in
    let first : fields c.args.line.now ≡ c.in_ok-next.field-0.now ∷ left 44 s₁ =
    start 44 c.args.line.now s₀ c.split-fields.ensures.rest c.split-fields.ensures.done ∙ next-some 44 _ s₀ s₁ c.in_ok-next.field-0 c.in_ok-next.ensures.steps (λ x b q k. search (rules, tests)) in
    c.from_residual-in_err-next-2.ensures ∙ no-second _ _ _ first (next_none 44 s₁ c.in_err-next-2.ensures.steps.0)

pub returns-in_err-width-clause-value : goal.returns-in_err-width-clause-value
returns-in_err-width-clause-value c =
    let s₀ = c.split-fields.result in
    let s₁ = c.next.new.self in
    let first : fields c.args.line.now ≡ c.in_ok-next.field-0.now ∷ left 44 s₁ =
    start 44 c.args.line.now s₀ c.split-fields.ensures.rest c.split-fields.ensures.done ∙ next-some 44 _ s₀ s₁ c.in_ok-next.field-0 c.in_ok-next.ensures.steps (λ x b q k. search (rules, tests)) in
    let s₂ = c.next-2.new.self in
    let second : fields c.args.line.now ≡ c.in_ok-next.field-0.now ∷ c.in_ok-next-2.field-0.now ∷ left 44 s₂ =
    rw (next-some 44 _ s₁ s₂ c.in_ok-next-2.field-0 c.in_ok-next-2.ensures.steps (λ x b q k. search (rules, tests))) at first in
    c.from_residual-in_err-width.ensures ∙ no-width _ _ _ _ second (sym c.read_number.ensures ∙ c.in_err-width.was)

pub returns-in_err-next-3-clause-value : goal.returns-in_err-next-3-clause-value
returns-in_err-next-3-clause-value c =
    let s₀ = c.split-fields.result in
    let s₁ = c.next.new.self in
    let first : fields c.args.line.now ≡ c.in_ok-next.field-0.now ∷ left 44 s₁ =
    start 44 c.args.line.now s₀ c.split-fields.ensures.rest c.split-fields.ensures.done ∙ next-some 44 _ s₀ s₁ c.in_ok-next.field-0 c.in_ok-next.ensures.steps (λ x b q k. search (rules, tests)) in
    let s₂ = c.next-2.new.self in
    let second : fields c.args.line.now ≡ c.in_ok-next.field-0.now ∷ c.in_ok-next-2.field-0.now ∷ left 44 s₂ =
    rw (next-some 44 _ s₁ s₂ c.in_ok-next-2.field-0 c.in_ok-next-2.ensures.steps (λ x b q k. search (rules, tests))) at first in
    c.from_residual-in_err-next-3.ensures ∙ no-third _ _ _ _ second (next_none 44 s₂ c.in_err-next-3.ensures.steps.0)

pub returns-in_err-height-clause-value : goal.returns-in_err-height-clause-value
returns-in_err-height-clause-value c =
    let s₀ = c.split-fields.result in
    let s₁ = c.next.new.self in
    let first : fields c.args.line.now ≡ c.in_ok-next.field-0.now ∷ left 44 s₁ =
    start 44 c.args.line.now s₀ c.split-fields.ensures.rest c.split-fields.ensures.done ∙ next-some 44 _ s₀ s₁ c.in_ok-next.field-0 c.in_ok-next.ensures.steps (λ x b q k. search (rules, tests)) in
    let s₂ = c.next-2.new.self in
    let second : fields c.args.line.now ≡ c.in_ok-next.field-0.now ∷ c.in_ok-next-2.field-0.now ∷ left 44 s₂ =
    rw (next-some 44 _ s₁ s₂ c.in_ok-next-2.field-0 c.in_ok-next-2.ensures.steps (λ x b q k. search (rules, tests))) at first in
    let s₃ = c.next-3.new.self in
    let third : fields c.args.line.now ≡ c.in_ok-next.field-0.now ∷ c.in_ok-next-2.field-0.now ∷ c.in_ok-next-3.field-0.now ∷ left 44 s₃ =
    rw (next-some 44 _ s₂ s₃ c.in_ok-next-3.field-0 c.in_ok-next-3.ensures.steps (λ x b q k. search (rules, tests))) at second in
    c.from_residual-in_err-height.ensures ∙ no-height _ _ _ _ _ third (sym c.read_number-2.ensures ∙ c.in_err-height.was)

pub overflow_mul-n : goal.overflow_mul-n
overflow_mul-n c =
    let w = number-within _ _ _ (sym c.read_number.ensures ∙ c.in_ok-width.was) in
    let h = number-within _ _ _ (sym c.read_number-2.ensures ∙ c.in_ok-height.was) in
    omega (arith, product_le w h)

pub returns-then-n-clause-value : goal.returns-then-n-clause-value
returns-then-n-clause-value c =
    let s₀ = c.split-fields.result in
    let s₁ = c.next.new.self in
    let first : fields c.args.line.now ≡ c.in_ok-next.field-0.now ∷ left 44 s₁ =
    start 44 c.args.line.now s₀ c.split-fields.ensures.rest c.split-fields.ensures.done ∙ next-some 44 _ s₀ s₁ c.in_ok-next.field-0 c.in_ok-next.ensures.steps (λ x b q k. search (rules, tests)) in
    let s₂ = c.next-2.new.self in
    let second : fields c.args.line.now ≡ c.in_ok-next.field-0.now ∷ c.in_ok-next-2.field-0.now ∷ left 44 s₂ =
    rw (next-some 44 _ s₁ s₂ c.in_ok-next-2.field-0 c.in_ok-next-2.ensures.steps (λ x b q k. search (rules, tests))) at first in
    let s₃ = c.next-3.new.self in
    let third : fields c.args.line.now ≡ c.in_ok-next.field-0.now ∷ c.in_ok-next-2.field-0.now ∷ c.in_ok-next-3.field-0.now ∷ left 44 s₃ =
    rw (next-some 44 _ s₂ s₃ c.in_ok-next-3.field-0 c.in_ok-next-3.ensures.steps (λ x b q k. search (rules, tests))) at second in
    let head : Head c.args.line.now c.in_ok-stamp.stamp c.in_ok-width.width c.in_ok-height.height (left 44 s₃) =
    record {
      stamp = c.in_ok-next.field-0.now;
      width = c.in_ok-next-2.field-0.now;
      height = c.in_ok-next-3.field-0.now;
      split = third;
      time = sym c.read_stamp.ensures ∙ c.in_ok-stamp.was;
      across = sym c.read_number.ensures ∙ c.in_ok-width.was;
      down = sym c.read_number-2.ensures ∙ c.in_ok-height.was;
    }
    in
    no-pixels _ _ _ _ _ head c.if-n.true

pub loop-value-init : goal.loop-value-init
loop-value-init c =
    let s₀ = c.split-fields.result in
    let s₁ = c.next.new.self in
    let first : fields c.args.line.now ≡ c.in_ok-next.field-0.now ∷ left 44 s₁ =
    start 44 c.args.line.now s₀ c.split-fields.ensures.rest c.split-fields.ensures.done ∙ next-some 44 _ s₀ s₁ c.in_ok-next.field-0 c.in_ok-next.ensures.steps (λ x b q k. search (rules, tests)) in
    let s₂ = c.next-2.new.self in
    let second : fields c.args.line.now ≡ c.in_ok-next.field-0.now ∷ c.in_ok-next-2.field-0.now ∷ left 44 s₂ =
    rw (next-some 44 _ s₁ s₂ c.in_ok-next-2.field-0 c.in_ok-next-2.ensures.steps (λ x b q k. search (rules, tests))) at first in
    let s₃ = c.next-3.new.self in
    let third : fields c.args.line.now ≡ c.in_ok-next.field-0.now ∷ c.in_ok-next-2.field-0.now ∷ c.in_ok-next-3.field-0.now ∷ left 44 s₃ =
    rw (next-some 44 _ s₂ s₃ c.in_ok-next-3.field-0 c.in_ok-next-3.ensures.steps (λ x b q k. search (rules, tests))) at second in
    let head : Head c.args.line.now c.in_ok-stamp.stamp c.in_ok-width.width c.in_ok-height.height (left 44 s₃) =
    record {
      stamp = c.in_ok-next.field-0.now;
      width = c.in_ok-next-2.field-0.now;
      height = c.in_ok-next-3.field-0.now;
      split = third;
      time = sym c.read_stamp.ensures ∙ c.in_ok-stamp.was;
      across = sym c.read_number.ensures ∙ c.in_ok-width.was;
      down = sym c.read_number-2.ensures ∙ c.in_ok-height.was;
    }
    in
    record { head = head; taken = taken_none _ _ }

pub returns-in_err-next-4-clause-value : goal.returns-in_err-next-4-clause-value
returns-in_err-next-4-clause-value c =
    let I = c.loop-value.invariant in
    let none = next_none 44 c.loop-value.fields c.in_err-next-4.ensures.steps.0 in
    let size = length-take-le (c.in_ok-width.width * c.in_ok-height.height) c.args.luma.now (omega (arith, c.if-n.false, c.told-luma)) in
    c.from_residual-in_err-next-4.ensures ∙ no-values _ _ _ _ _ I.head (taken-short _ _ _ _ I.taken none _ (omega (arith, size, c.loop-value-test.true)))

pub returns-in_err-value-clause-value : goal.returns-in_err-value-clause-value
returns-in_err-value-clause-value c =
    let next = next-some 44 _ c.loop-value.fields c.next-in-loop-value.new.self c.in_ok-next-4.field-0 c.in_ok-next-4.ensures.steps (λ x b q k. search (rules, tests)) in
    let I = c.loop-value.invariant in
    c.from_residual-in_err-value.ensures ∙ no-values _ _ _ _ _ I.head (taken_bad _ _ _ _ _ _ I.taken next _ (sym c.read_number-in-loop-value.ensures ∙ c.in_err-value.was))

pub overflow_cast-value : goal.overflow_cast-value
overflow_cast-value c =
    let small = number-within 255 c.in_ok-value.field-0 _ (sym c.read_number-in-loop-value.ensures ∙ c.in_ok-value.was) in
    record { fits = omega arith }

pub loop-value-preserved : goal.loop-value-preserved
loop-value-preserved c =
    let next = next-some 44 _ c.loop-value.fields c.next-in-loop-value.new.self c.in_ok-next-4.field-0 c.in_ok-next-4.ensures.steps (λ x b q k. search (rules, tests)) in
    let I = c.loop-value.invariant in
    record { head = I.head; taken = taken_more _ _ _ _ _ _ I.taken next _ (sym c.read_number-in-loop-value.ensures ∙ c.in_ok-value.was) (omega arith) }

pub returns-then-is_some-clause-value : goal.returns-then-is_some-clause-value
returns-then-is_some-clause-value c =
    let I = c.loop-value.invariant in
    let size = length-take-le (c.in_ok-width.width * c.in_ok-height.height) c.args.luma.now (omega (arith, c.if-n.false, c.told-luma)) in
    let more = some-left 44 _ c.loop-value.fields c.next-4.new.self c.next-4.result c.next-4.ensures.steps (sym c.is_some.ensures ∙ c.if-is_some.true) (λ x b q k. search (rules, tests)) in
    no-values _ _ _ _ _ I.head (taken-long _ _ _ _ _ _ I.taken more.1 _ (omega (arith, size, c.loop-value-test.false)))

pub overflow_cast-result : goal.overflow_cast-result
overflow_cast-result c =
    let small = number-within 4294967295 c.in_ok-width.width _ (sym c.read_number.ensures ∙ c.in_ok-width.was) in
    record { fits = omega arith }

pub overflow_cast-result-2 : goal.overflow_cast-result-2
overflow_cast-result-2 c =
    let small = number-within 4294967295 c.in_ok-height.height _ (sym c.read_number-2.ensures ∙ c.in_ok-height.was) in
    record { fits = omega arith }

pub returns-clause-value : goal.returns-clause-value
returns-clause-value c =
    let I = c.loop-value.invariant in
    let size = length-take-le (c.in_ok-width.width * c.in_ok-height.height) c.args.luma.now (omega (arith, c.if-n.false, c.told-luma)) in
    let none = none_left 44 _ c.loop-value.fields c.next-4.new.self c.next-4.result c.next-4.ensures.steps (sym c.is_some.ensures ∙ c.if-is_some.false) in
    says-frame _ _ _ _ _ I.head c.if-line-gt-MOST_BYTES.false c.if-n.false (taken-all _ _ _ _ I.taken none _ (omega (arith, size, c.loop-value-test.false)))

pub returns-clause-luma_after : goal.returns-clause-luma_after
returns-clause-luma_after c =
    let I = c.loop-value.invariant in
    let size = length-take-le (c.in_ok-width.width * c.in_ok-height.height) c.args.luma.now (omega (arith, c.if-n.false, c.told-luma)) in
    let none = none_left 44 _ c.loop-value.fields c.next-4.new.self c.next-4.result c.next-4.ensures.steps (sym c.is_some.ensures ∙ c.if-is_some.false) in
    says-luma _ _ _ _ _ I.head _ (taken-luma _ _ _ _ I.taken none _ _ (omega (arith, size, c.loop-value-test.false)) (omega (arith, c.loop-value.auto)))
