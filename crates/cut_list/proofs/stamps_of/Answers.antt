-- `cut_list::stamps_of` meets its contract: the answer of `is_sorted_by` is whether the stamps are in order.
use Rattle.std.proofs.Common.{rules}
use Rattle.std.proofs.lemmas.Fn.{always_returns_same}
use Rattle.cut_list.specs.Record.{follows}
use Rattle.cut_list.proofs.Walks.{in_order-is}
use Rattle.cut_list.proofs.Brought.{looked}
use Rattle.cut_list.proofs.stamps_of.Goals as goal

pub returns-then-in_order-clause-bad : goal.returns-then-in_order-clause-bad
returns-then-in_order-clause-bad c =
    let o = in_order-is _ _ _ (c.is_sorted_by-in_order.ensures.cases (follows c.args.list.min_duration) (always_returns_same _ _ _ (λ a r f k. search rules))) in
    looked _ c.if-list-gt-MOST_STAMPS.false c.if-memory-lt-MOST_STAMPS.false o c.if-in_order.true

pub returns-else-in_order-clause-bad : goal.returns-else-in_order-clause-bad
returns-else-in_order-clause-bad c =
    let o = in_order-is _ _ _ (c.is_sorted_by-in_order.ensures.cases (follows c.args.list.min_duration) (always_returns_same _ _ _ (λ a r f k. search rules))) in
    looked _ c.if-list-gt-MOST_STAMPS.false c.if-memory-lt-MOST_STAMPS.false o c.if-in_order.false
