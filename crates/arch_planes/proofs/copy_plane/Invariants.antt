-- `arch_planes::copy_plane` meets its contract. The invariant: the rows above y are written.
use Prim.Native.Nat.{◌+◌, ◌*◌}
use lib.ListN.{get_or}
use Rattle.laws.proofs.Planes.{RowsDone}
use Rattle.arch_planes.proofs.copy_plane.Given as goal

abbrev pub invariant-loop-y : goal.invariant-loop-y
invariant-loop-y l = RowsDone 0 (λ x v. get_or l.src (v * l.stride + x) 0) l.w l.h l.y l.dst
