use Rattle.std.proofs.Common.{◌+◌, length}
use Rattle.laws.proofs.Tab.{Filled}
use Rattle.arch_sobel.specs.Sobel.{dir_at}
use Rattle.arch_sobel.proofs.Plane.directions.Given as goal

abbrev pub invariant-loop-j : goal.invariant-loop-j
invariant-loop-j l = Filled 0 (λ j. dir_at l.self.bytes.now l.self.w l.self.h (l.x + j) l.y) (length l.initial.out) l.j l.out
