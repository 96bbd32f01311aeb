-- The places before i are the rows', the others are 0.
use Rattle.std.proofs.Common.{◌≡◌, map}
use Rattle.light_plan.specs.declared.Row.{Row}
use Rattle.light_plan.specs.Plan.{kept}
use Rattle.light_plan.proofs.Plan.of.Given as goal

abbrev pub invariant-loop-i : goal.invariant-loop-i
invariant-loop-i l = record {
  from : l.plan.from ≡ kept l.i (map (λ (r : Row). r.from) l.rows);
  to : l.plan.to ≡ kept l.i (map (λ (r : Row). r.to) l.rows);
  threshold : l.plan.threshold ≡ kept l.i (map (λ (r : Row). r.threshold) l.rows);
}
