use Rattle.std.proofs.Common.{refl, ap, ◌∙◌, map, arith}
use Rattle.laws.proofs.Stepped.{stepped-none, stepped-all}
use Rattle.canny_hysteresis.specs.Sweeps.{whitened, strong_pixels}
use Rattle.canny_hysteresis.proofs.Places.{rounds-more, all-inside}
use Rattle.canny_hysteresis.proofs.hysteresis.Goals as goal

pub rounds-init : goal.rounds-init
rounds-init c = stepped-none refl

pub rounds-preserved : goal.rounds-preserved
rounds-preserved c =
    rounds-more c.args.classes.now c.args.w c.args.h c.requires.lengths.0 c.list_weak-count.ensures c.rounds.invariant c.sweep.ensures c.sweep-in-rounds.ensures

pub invariant_of-weak : goal.invariant_of-weak
invariant_of-weak c = record { inside = all-inside c.args.classes.now c.args.w c.args.h c.requires.lengths.0 c.list_weak-count.ensures }

pub returns-clause-classes : goal.returns-clause-classes
unfolding strong_pixels
returns-clause-classes c = c.whiten.ensures ∙ ap (map whitened) (stepped-all c.rounds.invariant (omega arith))
