-- `memory::renew` meets its contract: no more is renewed than there is, and the rest stays.
use borrow.Author.Tests.{le-leb, lt-leb}
use Rattle.compare_lists.proofs.Renewing.{made-run, made-level}
use Rattle.compare_lists.proofs.memory.renew.Goals as goal

pub returns-then-kind-le3 : goal.returns-then-kind-le3
returns-then-kind-le3 c =
    let p = made-run _ _ _ _ _ _ _ (le-leb _ _ c.if-kind-le3.true) c.min-e.ensures c.fill.ensures.value c.fill.ensures.dst_after in
    record { value = p.0; plane_after = p.1 }

pub returns-else-kind-le3 : goal.returns-else-kind-le3
returns-else-kind-le3 c =
    let p = made-level _ _ _ _ _ _ _ _ (lt-leb _ _ c.if-kind-le3.false) c.min-e.ensures c.next-y.ensures c.byte.ensures (c.fill-else-kind-le3.ensures.after (λ y e. e)) in
    record { value = p.0; plane_after = p.1 }
