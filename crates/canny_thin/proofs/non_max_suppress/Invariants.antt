use Rattle.std.proofs.Common.{◌+◌}
use Rattle.laws.proofs.Planes.{RowsDone}
use Rattle.arch_sobel.specs.Sobel.{sobel_mag}
use Rattle.canny_thin.specs.Blocks.{class_in}
use Rattle.canny_thin.proofs.Rows.{Ready}
use Rattle.canny_thin.proofs.non_max_suppress.Given as goal

abbrev pub invariant-loop-y : goal.invariant-loop-y
invariant-loop-y l = record {
  ready : Ready l.fn.luma l.w l.h (l.y + 1) l.mag;
  rows : RowsDone 0 (class_in l.fn.luma (sobel_mag l.fn.luma l.w l.h) l.w l.h l.low l.high) l.w l.h l.y l.classes;
}
