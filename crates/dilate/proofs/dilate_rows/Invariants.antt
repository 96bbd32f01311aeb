use Rattle.dilate.proofs.RowsDilated.{RowsDilated}
use Rattle.dilate.proofs.dilate_rows.Given as goal

abbrev pub invariant-loop-y : goal.invariant-loop-y
invariant-loop-y l = RowsDilated l.w l.half l.fn.plane l.y l.plane
