use Rattle.std.proofs.Common.{◌+◌}
use Rattle.laws.proofs.InPlace.{Mapped}
use Rattle.canny_thin.specs.Thin.{class_at}
use Rattle.canny_thin.proofs.Thinning.thin.Given as goal

abbrev pub invariant-loop-j : goal.invariant-loop-j
invariant-loop-j l =
    Mapped 0 (λ j v. class_at l.self.mag.now l.self.luma.w l.self.luma.h l.self.low l.self.high v (l.x + j) l.y) l.initial.block l.j l.block
