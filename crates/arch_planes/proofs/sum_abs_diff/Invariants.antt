-- The invariant: the total is that of the blocks before this one.
use Prim.Native.Nat.{◌*◌, ◌≤◌}
use mathlib.Core.Path.{◌≡◌}
use Rattle.arch_planes.proofs.Totals.{below}
use Rattle.arch_planes.proofs.sum_abs_diff.Given as goal

abbrev pub invariant-loop-i : goal.invariant-loop-i
invariant-loop-i l = record {
  most : l.total ≤ 255 * (32 * l.i);
  summed : l.total ≡ below l.a l.b (32 * l.i);
}
