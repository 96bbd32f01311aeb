-- `luma_median::add_row` meets its contract. The invariant: the counts have grown by those of the bytes before. Assumes nothing.
use Rattle.luma_median.proofs.Rows.{Grown}
use Rattle.luma_median.proofs.add_row.Given as goal

abbrev pub invariant-loop-b : goal.invariant-loop-b
invariant-loop-b l = Grown l.initial.counts l.row l.b-index l.counts
