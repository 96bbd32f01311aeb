-- Each median's count is that of the rows before i.
use Rattle.light_plan.proofs.Counts.{Counted}
use Rattle.light_plan.proofs.Plan.counts.Given as goal

abbrev pub invariant-loop-i : goal.invariant-loop-i
invariant-loop-i l = Counted l.self l.i l.counts
