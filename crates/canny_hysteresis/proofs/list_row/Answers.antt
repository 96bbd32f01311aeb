use Rattle.std.proofs.Common.{◌∙◌, ap, rules, arith, length, length-append}
use Rattle.canny_hysteresis.proofs.Listing.{none-left, weak-append, weak-short, added-none, added-more, added-count}
use Rattle.canny_hysteresis.proofs.list_row.Goals as goal

pub loop-block-preserved : goal.loop-block-preserved
loop-block-preserved c =
    let i = c.loop-block.invariant in
    let s = c.in-Some.ensures.steps in
    let block = c.in-Some.block.now in
    let rest = ap length s.1.0 ∙ length-append block _ in
    record {
      can_next = search rules;
      finite = tt;
      size = s.0 ∙ i.size;
      room = omega (arith, i.room, added-count c.list_block-count.ensures (omega (arith, i.room)), weak-short c.loop-block.at block, rest);
      small = omega (arith, i.small, rest);
      added = λ m k A. i.added m k (added-more c.list_block-count.ensures A (rw s.1.0 (weak-append c.loop-block.at block _)));
    }

pub returns : goal.returns
returns c = c.loop-block.invariant.added _ _ (added-none _ _ _ (omega arith) (none-left _ _ c.in-None.ensures.steps.1.0))
