use Rattle.std.proofs.Common.{pos}
use Rattle.laws.proofs.Tab.{Filled}
use Rattle.arch_sobel.specs.Sobel.{mag_at}
use Rattle.arch_sobel.proofs.Plane.magnitudes.Given as goal

abbrev pub invariant-loop-x : goal.invariant-loop-x
invariant-loop-x l = Filled (pos 0) (λ k. mag_at l.self.bytes.now l.self.w l.self.h k l.y) l.self.w l.x l.mag
