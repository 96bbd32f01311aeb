-- `arch_hsv::bgr_to_hsv_row` meets its contract. The invariant: the pixels before `at` are stored. Assumes nothing.
use mathlib.Core.Path.{◌≡◌}
use Rattle.std.specs.Slice.Iter.{chunks_rest, chunks_size}
use Rattle.arch_hsv.proofs.Pixels.{RowSoFar}
use Rattle.arch_hsv.proofs.bgr_to_hsv_row.Given as goal

abbrev pub invariant-loop-part : goal.invariant-loop-part
invariant-loop-part l =
    (goal.iterator-loop-part).can_next l.part-iterator
    × (goal.iterator-loop-part).is_finite l.part-iterator
    × (chunks_size l.part-iterator ≡ 768)
    × RowSoFar l.initial.out l.row l.first l.n l.at l.out (chunks_rest l.part-iterator)
