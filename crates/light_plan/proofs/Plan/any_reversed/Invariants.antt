-- No row before i is reversed: those from i on tell.
use Rattle.std.proofs.Common.{◌≡◌, drop}
use Rattle.light_plan.specs.Rows.{any_reversed}
use Rattle.light_plan.specs.Plan.{rows_of}
use Rattle.light_plan.proofs.Plan.any_reversed.Given as goal

abbrev pub invariant-loop-i : goal.invariant-loop-i
invariant-loop-i l = any_reversed (drop l.i (rows_of l.self)) ≡ any_reversed (rows_of l.self)
