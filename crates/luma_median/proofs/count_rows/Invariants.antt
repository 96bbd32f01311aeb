-- `luma_median::count_rows` meets its contract. The invariant: the rows above y are counted. Assumes nothing.
use mathlib.Core.Path.{◌≡◌}
use Rattle.arch_planes.specs.Packed.{packed}
use Rattle.luma_median.proofs.Rows.{counts_of}
use Rattle.luma_median.proofs.count_rows.Given as goal

abbrev pub invariant-loop-y : goal.invariant-loop-y
invariant-loop-y l = l.counts ≡ counts_of (packed l.plane l.w l.y l.stride)
