-- The rows below the index are written.
use Rattle.std.proofs.Common.{◌+◌, ◌%◌, slice_index}
use Rattle.laws.proofs.Tab.{Filled}
use Rattle.light_plan.specs.Rows.{row}
use Rattle.replay_plan.specs.Texts.{count_of, row_of}
use Rattle.replay_plan.proofs.texts.rows.Given as goal

abbrev pub invariant-loop-j : goal.invariant-loop-j
invariant-loop-j l = Filled (row 0 0 0) (λ j. row_of (count_of l.r) (slice_index l.r 2) ((j + slice_index l.r 1) % count_of l.r)) 16 l.j l.rows
