-- `arch_hsv::bgr_to_hsv_planes` meets its contract. The invariant: the rows above y are stored. Assumes nothing.
use Rattle.arch_hsv.proofs.Stored.{RowsStored}
use Rattle.arch_hsv.proofs.bgr_to_hsv_planes.Given as goal

abbrev pub invariant-loop-y : goal.invariant-loop-y
invariant-loop-y l = RowsStored l.src l.w l.h l.stride l.y l.out
