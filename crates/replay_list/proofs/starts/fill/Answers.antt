use Rattle.std.proofs.Common.{refl, ap, ◌∙◌, arith, w64, rules}
use mir.Val.{SFits}
use Rattle.std.proofs.lemmas.Int.{to_z-of_z}
use Rattle.laws.proofs.Stepped.{stepped-none, stepped-more}
use Rattle.laws.proofs.Tab.{filled_none, filled_more, filled-all}
use Rattle.replay_list.specs.Numbers.{stamp_of}
use Rattle.replay_list.proofs.starts.fill.Goals as goal

pub loop-micros-init : goal.loop-micros-init
loop-micros-init c = (stepped-none refl, filled_none _ _ _ _ (omega arith))

pub loop-micros-preserved : goal.loop-micros-preserved
loop-micros-preserved c =
    let h = c.loop-micros.invariant in
    let f : SFits w64 c.stamp.result.micros = search rules in
    (stepped-more h.0 refl refl, filled_more _ h.1 (omega arith) (to_z-of_z w64 _ f ∙ c.stamp.ensures ∙ ap stamp_of h.0.at))

pub returns : goal.returns
returns c = filled-all c.loop-micros.invariant.1 (omega arith)
