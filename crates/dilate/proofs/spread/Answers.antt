use Rattle.std.proofs.Common.{refl}
use Rattle.dilate.proofs.Halves.{spread-first, spread-others}
use Rattle.dilate.proofs.spread.Goals as goal

pub returns-clause-first : goal.returns-clause-first
returns-clause-first c =
    spread-first _ _ _ _ _ c.args.s c.requires.s_bound c.copy_from_slice.ensures.after c.raise.auto.row c.raise.ensures refl c.raise-2.auto.row c.raise-2.ensures

pub returns-clause-others : goal.returns-clause-others
returns-clause-others c =
    spread-others _ _ _ _ _ c.args.s c.requires.s_bound c.copy_from_slice.ensures.after c.raise.auto.row c.raise.ensures refl c.raise-2.auto.row c.raise-2.ensures
