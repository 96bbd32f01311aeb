-- `call` meets its contract: three draws, the call, what it feeds.
use mathlib.Core.Path.{refl}
use Rattle.replay_filter.specs.Lists.{outcome_of, run_after}
use Rattle.replay_filter.proofs.call.Goals as goal

pub returns-clause-value : goal.returns-clause-value
unfolding outcome_of run_after
returns-clause-value c =
    let answer = rw (c.stamp.ensures, c.byte-3.ensures, c.byte-2.ensures, c.move_by.ensures.value, c.byte.ensures, c.next-x3.ensures, c.next-x2.ensures, c.next-x1.ensures) at c.answered-answer.ensures.value in
    rw (c.feed.ensures, c.state_after.ensures, answer, c.move_by.ensures.value, c.byte.ensures, c.next-x3.ensures, c.next-x2.ensures, c.next-x1.ensures) refl

pub returns-clause-store_after : goal.returns-clause-store_after
unfolding outcome_of
returns-clause-store_after c =
    rw (c.stamp.ensures, c.byte-3.ensures, c.byte-2.ensures, c.move_by.ensures.value, c.byte.ensures, c.next-x3.ensures, c.next-x2.ensures, c.next-x1.ensures) at c.answered-answer.ensures.store_after
