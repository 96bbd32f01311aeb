-- `canny_hysteresis::list_block` meets its contract. The invariant: the weak places before this one are listed. Assumes nothing.
use Rattle.std.proofs.Common.{take, ◌≤◌, ◌+◌}
use Rattle.canny_hysteresis.specs.Places.{weak_from, Added}
use Rattle.canny_hysteresis.proofs.list_block.Given as goal

abbrev pub invariant-loop-i : goal.invariant-loop-i
invariant-loop-i l = Added l.n l.initial.list (weak_from l.first (take l.i l.block)) l.list l.count × (l.count ≤ l.n + l.i)
