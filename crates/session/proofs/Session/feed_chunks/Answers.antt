use native.Mathlib.Omega.{arith}
use Rattle.session.proofs.Feeding.{taken_none, taken_part, part-size, takes}
use Rattle.session.proofs.Session.feed_chunks.Goals as goal

pub loop-taken-init : goal.loop-taken-init
loop-taken-init c = taken_none _ _ _ (omega arith)

pub returns-then-taken-end : goal.returns-then-taken-end
returns-then-taken-end c =
    takes _ _ _ _ _ _ (taken_part _ _ _ _ _ _ _ _ _ _ (omega arith) c.loop-taken.invariant c.feed_to-taken.ensures) (λ less. omega (
      arith,
      c.loop-taken.invariant.text.size,
      c.feed_to-taken.ensures.full (let size = part-size c.loop-taken.taken c.chunk_end-end.result c.args.input.now c.chunk_end-end.ensures.lower_bound.1 in omega (arith, size, c.if-taken-end.true)),
    ))

pub loop-taken-preserved : goal.loop-taken-preserved
loop-taken-preserved c = taken_part _ _ _ _ _ _ _ _ _ _ (omega arith) c.loop-taken.invariant c.feed_to-taken.ensures
