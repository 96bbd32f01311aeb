use Rattle.std.proofs.Common.{◌≡◌, ap, ◌∙◌, arith, ℕ, ltb, eqb}
use Rattle.light_plan.specs.Rows.{any_below, rows_with}
use Rattle.light_plan.specs.Plan.{rows_of}
use Rattle.light_plan.proofs.Plan.twice_and_missing.Goals as goal

pub returns-clause-twice : goal.returns-clause-twice
returns-clause-twice c =
    let all : c.loop-n.n-index ≡ 256 = omega arith in
    c.loop-n.invariant.twice ∙ ap (λ (n : ℕ). any_below n (λ m. ltb 1 (rows_with (rows_of c.args.self) m))) all

pub returns-clause-missing : goal.returns-clause-missing
returns-clause-missing c =
    let all : c.loop-n.n-index ≡ 256 = omega arith in
    c.loop-n.invariant.missing ∙ ap (λ (n : ℕ). any_below n (λ m. eqb (rows_with (rows_of c.args.self) m) 0)) all
