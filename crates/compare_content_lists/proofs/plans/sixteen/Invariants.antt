-- The rows below the index are written.
use Rattle.std.proofs.Common.{◌+◌, ◌*◌, ◌%◌}
use Rattle.laws.proofs.Tab.{Filled}
use Rattle.light_plan.specs.Rows.{row}
use Rattle.compare_content_lists.proofs.plans.sixteen.Given as goal

abbrev pub invariant-loop-i : goal.invariant-loop-i
invariant-loop-i l = Filled (row 0 0 0) (λ i. row (16 * i) (16 * i + 15) ((l.b + 17 * i) % 128)) 16 l.i l.rows
