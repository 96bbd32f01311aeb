-- The invariant: the rows above y are replaced, and the total is that of their differences.
use Prim.Native.Nat.{◌+◌, ◌*◌, ◌≤◌}
use mathlib.Core.Path.{◌≡◌}
use lib.ListN.{get_or}
use Rattle.laws.proofs.InPlace.{MappedRows}
use Rattle.arch_planes.proofs.Totals.{above}
use Rattle.arch_planes.proofs.replace_rows.Given as goal

abbrev pub invariant-loop-y : goal.invariant-loop-y
invariant-loop-y l = record {
  most : l.total ≤ 255 * (l.y * l.w);
  summed : l.total ≡ above l.src l.initial.dst l.w l.h l.stride l.y;
  replaced : MappedRows 0 (λ x v _. get_or l.src (v * l.stride + x) 0) l.w l.h l.y l.initial.dst l.dst;
}
