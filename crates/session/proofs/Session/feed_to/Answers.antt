use borrow.Author.Rules.{rules}
use borrow.Author.Tests.{tests}
use denote.Param.Always.{mut_total}
use mathlib.Core.Path.{refl, sym, ◌∙◌}
use native.Mathlib.Omega.{arith}
use Rattle.session.proofs.Feeding.{taken_none, taken_more}
use Rattle.session.proofs.Pieces.{piece, piece-here, piece-next}
use Rattle.session.proofs.Session.feed_to.Goals as goal

pub loop-bytes-init : goal.loop-bytes-init
loop-bytes-init c = (mut_total _ _ (λ p x. tt), (tt, (cc, taken_none _ _ _ (omega arith))))

pub feed_line-requires : goal.feed_line-requires
feed_line-requires c = (piece c.loop-bytes.bytes-iterator c.next.new.self c.in-Some.bytes.now c.in-Some.ensures.steps (λ x b q k. search (rules, tests)), omega (arith, c.if-text-lt-ROOM.false))

pub loop-bytes-preserved : goal.loop-bytes-preserved
loop-bytes-preserved c =
    let I = c.loop-bytes.invariant in
    let chunk = c.args.chunk.now in
    let a = c.loop-bytes.taken in
    let x = c.in-Some.bytes.now in
    let split = sym I.1.1.0 ∙ c.in-Some.ensures.steps.0 in
    (search rules, (search rules, (piece-next chunk x _ a split, taken_more _ _ _ chunk _ _ _ a _ x (omega arith) I.1.1.1 (piece-here chunk x _ a split) refl c.feed_line.ensures.state c.feed_line.ensures.text)))
