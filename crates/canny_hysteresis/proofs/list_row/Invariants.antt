-- `canny_hysteresis::list_row` meets its contract. The invariant: there is room for the rest, and with the weak ones of the rest, those of the
-- whole are listed. Assumes nothing.
use Rattle.std.proofs.Common.{◌≡◌, ◌^◌, ◌≤◌, ◌+◌, ℕ, ℤ, List, length}
use Rattle.std.specs.Slice.Iter.{chunks_rest, chunks_size}
use Rattle.canny_hysteresis.specs.Places.{weak_from, Added}
use Rattle.canny_hysteresis.proofs.list_row.Given as goal

abbrev pub invariant-loop-block : goal.invariant-loop-block
invariant-loop-block l = record {
  can_next : (goal.iterator-loop-block).can_next l.block-iterator;
  finite : (goal.iterator-loop-block).is_finite l.block-iterator;
  size : chunks_size l.block-iterator ≡ 64;
  room : l.count + length (chunks_rest l.block-iterator) ≤ length l.initial.list;
  small : l.at + length (chunks_rest l.block-iterator) ≤ 2 ^ 24;
  added : (new : List ℤ) (k : ℕ) → Added l.count l.list (weak_from l.at (chunks_rest l.block-iterator)) new k
      → Added l.n l.initial.list (weak_from l.first l.inner) new k;
}
