-- What the counts before n say.
use Rattle.std.proofs.Common.{◌≡◌, ltb, eqb}
use Rattle.light_plan.specs.Rows.{any_below, rows_with}
use Rattle.light_plan.specs.Plan.{rows_of}
use Rattle.light_plan.proofs.Plan.twice_and_missing.Given as goal

abbrev pub invariant-loop-n : goal.invariant-loop-n
invariant-loop-n l = record {
  twice : l.twice ≡ any_below l.n-index (λ m. ltb 1 (rows_with (rows_of l.fn.self) m));
  missing : l.missing ≡ any_below l.n-index (λ m. eqb (rows_with (rows_of l.fn.self) m) 0);
}
