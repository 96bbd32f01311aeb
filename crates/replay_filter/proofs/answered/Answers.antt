-- `answered` meets its contract: `clear`, or the frame call's promise.
use borrow.Author.Tests.{eq-eqb, ne_eqb}
use mathlib.Core.Path.{◌≡◌, refl, ap, ◌∙◌}
use mathlib.Core.List.{[], ◌∷◌}
use lib.IntN.{pos}
use Rattle.std.proofs.Common.{rules}
use lib.ListN.{length, replicate}
use Rattle.frame_call.specs.Call.{Outcome}
use Rattle.frame_call.proofs.Returned.{lent_same}
use Rattle.content.specs.Options.{picture_options}
use Rattle.content.specs.State.{Answer, bad_state, refused_answer, cleared_answer}
use Rattle.content.specs.Step.{stepped}
use Rattle.replay_filter.specs.Lists.{answered_of}
use Rattle.replay_filter.proofs.answered.Goals as goal

pub returns-then-action-eq0 : goal.returns-then-action-eq0
unfolding answered_of
returns-then-action-eq0 c =
    record { value = rw (eq-eqb _ _ c.if-action-eq0.true) c.cleared.ensures; store_after = rw (eq-eqb _ _ c.if-action-eq0.true) refl }

pub returns-else-action-eq0 : goal.returns-else-action-eq0
unfolding answered_of
returns-else-action-eq0 c =
    let a = c.args in
    let m = a.memory.now in
    let nine : length m.scratch ≡ 9 = search rules in
    let one : length m.magnitudes ≡ 1 = search rules in
    let same = lent_same a.d.stream (picture_options a.d.options) (bad_state a.d) (stepped a.d) (refused_answer a.d) (cleared_answer a.d) (a.luma ∷ []) 1 1 c.stride.result a.ts
    m.store m.scratch (replicate 9 0) m.magnitudes (replicate 1 (pos 0)) nine one in
    record {
      value = rw (ne_eqb _ _ c.if-action-eq0.false, ← c.stride.ensures) (c.process_luma.ensures.called.answered ∙ ap (λ (o : Outcome Answer). o.answer) same);
      store_after = rw (ne_eqb _ _ c.if-action-eq0.false, ← c.stride.ensures) (c.process_luma.ensures.called.stored ∙ ap (λ (o : Outcome Answer). o.store) same);
    }
