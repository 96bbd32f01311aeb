-- No row before i has the median: those from i on tell.
use Rattle.std.proofs.Common.{◌≡◌, drop}
use Rattle.light_plan.specs.Rows.{threshold_at}
use Rattle.light_plan.specs.Plan.{rows_of}
use Rattle.light_plan.proofs.Plan.threshold_at.Given as goal

abbrev pub invariant-loop-i : goal.invariant-loop-i
invariant-loop-i l = threshold_at (drop l.i (rows_of l.self)) l.median ≡ threshold_at (rows_of l.self) l.median
