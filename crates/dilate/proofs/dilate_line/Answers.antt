use Rattle.std.proofs.Common.{◌≡◌, min, length, get_or, arith, ◌∙◌}
use Rattle.std.proofs.lemmas.List.{get_or_past}
use Rattle.dilate.proofs.Around.{around-zero, around-all, around-step}
use Rattle.dilate.proofs.dilate_line.Goals as goal

pub loop-reach-init : goal.loop-reach-init
loop-reach-init c = record {
  reached = omega arith;
  largest = λ i h. around-zero _ i _ h;
}

pub loop-reach-preserved : goal.loop-reach-preserved
loop-reach-preserved c =
    let n = length c.args.line.now in
    record {
      reached = omega arith;
      largest = λ i h.
          around-step n c.loop-reach.reach c.min-s.result i _ (λ j. get_or c.loop-reach.line j 0) (λ j. get_or c.args.line.now j 0) h (omega arith)
          c.loop-reach.invariant.largest (λ j b. get_or_past c.loop-reach.line j 0 (omega (arith, c.loop-reach.auto.line)))
          (λ b. c.spread.ensures.first i b (omega (arith, c.loop-reach.auto.line))) (λ b. c.spread.ensures.others i b (omega (arith, c.loop-reach.auto.line)));
    }

pub returns : goal.returns
returns c =
    let e : c.loop-reach.reach ≡ min c.args.half (length c.args.line.now) = omega arith in
    λ i h. c.loop-reach.invariant.largest i h ∙ rw e (around-all _ c.args.half i _ h)
