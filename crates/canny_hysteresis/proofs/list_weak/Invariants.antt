-- `canny_hysteresis::list_weak` meets its contract. The invariant: the weak inner places of the y rows from row 1 on are listed. Assumes nothing.
use Rattle.std.proofs.Common.{◌*◌, ◌≤◌}
use Rattle.canny_hysteresis.specs.Places.{weak_rows, Added}
use Rattle.canny_hysteresis.proofs.list_weak.Given as goal

abbrev pub invariant-loop-y : goal.invariant-loop-y
invariant-loop-y l = Added 0 l.initial.list (weak_rows l.s l.w l.y) l.list l.count × (l.count ≤ l.y * l.w)
