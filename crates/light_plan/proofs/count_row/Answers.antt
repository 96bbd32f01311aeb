use Rattle.std.proofs.Common.{◌≡◌, arith, ◌+◌, ◌-◌, length}
use borrow.Rule.Slice.PartMut.{mid_of}
use Rattle.laws.proofs.Parts.{length_part}
use Rattle.light_plan.proofs.Counts.{row_counted}
use Rattle.light_plan.proofs.count_row.Goals as goal

pub returns-after-loop-n : goal.returns-after-loop-n
returns-after-loop-n c =
    let a = c.from.result in let k = c.from-then-row.result + 1 - c.from.result in
    let size : length (mid_of a k c.args.counts.now) ≡ k = length_part a k c.args.counts.now (omega arith) in
    row_counted c.args.row c.args.counts.now c.loop-n.n-items a k (omega arith) (omega arith) (omega arith) (omega arith) (omega arith) (omega arith)
    (λ j h. c.loop-n.invariant.done j (omega arith))
