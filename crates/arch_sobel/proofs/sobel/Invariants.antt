use lib.IntN.{pos}
use Rattle.laws.proofs.Planes.{RowsDone}
use Rattle.arch_sobel.specs.Sobel.{mag_at, dir_at}
use Rattle.arch_sobel.proofs.sobel.Given as goal

abbrev pub invariant-loop-y : goal.invariant-loop-y
invariant-loop-y l = record {
  mag : RowsDone (pos 0) (mag_at l.input l.w l.h) l.w l.h l.y l.mag;
  dir : RowsDone 0 (dir_at l.input l.w l.h) l.w l.h l.y l.dir;
}
