-- `decimal::read_stamp` meets its contract. Assumes nothing.
use mathlib.Core.Path.{◌∙◌, sym}
use Rattle.decimal.proofs.Numbers.{minus_none, minus-far, minus_some, plus_none, plus-far, plus_some}
use Rattle.decimal.proofs.read_stamp.Goals as goal

pub returns-in_err-read_number-in-Some : goal.returns-in_err-read_number-in-Some
returns-in_err-read_number-in-Some c =
    let s = c.in-Some.ensures.cases in
    c.from_residual.ensures ∙ minus_none _ _ s.0 s.1 (sym c.read_number.ensures ∙ c.in_err-read_number-in-Some.was)

pub returns-in_err-micros-in-Some : goal.returns-in_err-micros-in-Some
returns-in_err-micros-in-Some c =
    let s = c.in-Some.ensures.cases in
    c.from_residual-in_err-micros-in-Some.ensures ∙ minus-far _ _ s.0 s.1 _ (sym c.read_number.ensures ∙ c.in_ok-read_number-in-Some.was) c.in_err-micros-in-Some.ensures

pub returns-in_err-read_number-in-None : goal.returns-in_err-read_number-in-None
returns-in_err-read_number-in-None c =
    c.from_residual-in_err-read_number-in-None.ensures ∙ plus_none _ c.in-None.ensures.cases (sym c.read_number-in-None.ensures ∙ c.in_err-read_number-in-None.was)

pub returns-in_err-micros-in-None : goal.returns-in_err-micros-in-None
returns-in_err-micros-in-None c =
    c.from_residual-in_err-micros-in-None.ensures ∙ plus-far _ c.in-None.ensures.cases _ (sym c.read_number-in-None.ensures ∙ c.in_ok-read_number-in-None.was) c.in_err-micros-in-None.ensures

pub returns-in_ok-micros-in-Some : goal.returns-in_ok-micros-in-Some
returns-in_ok-micros-in-Some c =
    let s = c.in-Some.ensures.cases in
    minus_some _ _ s.0 s.1 _ (sym c.read_number.ensures ∙ c.in_ok-read_number-in-Some.was) _ c.in_ok-micros-in-Some.ensures

pub returns-in_ok-micros-in-None : goal.returns-in_ok-micros-in-None
returns-in_ok-micros-in-None c =
    plus_some _ c.in-None.ensures.cases _ (sym c.read_number-in-None.ensures ∙ c.in_ok-read_number-in-None.was) _ c.in_ok-micros-in-None.ensures
