use Rattle.std.proofs.Common.{refl, ap, sym, ◌∙◌, ◌≡◌, ◌+◌, arith}
use Rattle.laws.proofs.Tab.{filled_none, filled_more, filled-all}
use Rattle.replay.specs.Generator.{next_of, after, shades}
use Rattle.replay.proofs.Steps.{after_more}
use Rattle.replay.proofs.fill.Goals as goal

pub loop-place-init : goal.loop-place-init
unfolding after
loop-place-init c = (refl, filled_none _ _ _ _ refl)

pub loop-place-preserved : goal.loop-place-preserved
loop-place-preserved c =
    let x = c.args.x in
    let now : c.next-now.result ≡ after (c.loop-place.place-index + 1) x = c.next-now.ensures ∙ ap next_of c.loop-place.invariant.0 ∙ sym (after_more c.loop-place.place-index x) in
    (now, filled_more _ c.loop-place.invariant.1 (omega arith) cc)

pub returns-clause-dst_after : goal.returns-clause-dst_after
unfolding shades
returns-clause-dst_after c = filled-all c.loop-place.invariant.1 (omega arith)
