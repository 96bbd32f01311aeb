use mathlib.Core.Path.{◌≡◌, ◌∙◌, sym}
use native.Mathlib.Omega.{arith}
use borrow.Author.Tests.{tests}
use Rattle.std.proofs.Common.{rules, ◌<◌}
use lib.ListN.{length}
use Rattle.decimal.proofs.Numbers.{read_more, read-stops, read_all, read-empty}
use Rattle.decimal.proofs.read_number.Goals as goal

pub returns-then-is_empty : goal.returns-then-is_empty
returns-then-is_empty c = let none : length c.args.part.now ≡ 0 = search (rules, tests) in read-empty _ _ none

pub returns-in_err-value : goal.returns-in_err-value
returns-in_err-value c =
    c.from_residual.ensures ∙ read-stops _ _ _ _ c.loop-b.invariant (omega arith) (sym c.with_digit.ensures ∙ c.in_err-value.was)

pub loop-b-preserved : goal.loop-b-preserved
loop-b-preserved c = read_more _ _ _ _ c.loop-b.invariant (omega arith) _ (sym c.with_digit.ensures ∙ c.in_ok-value.was)

pub returns : goal.returns
returns c = let some : 0 < length c.args.part.now = search (rules, tests) in read_all _ _ _ _ c.loop-b.invariant some c.loop-b-test.false
