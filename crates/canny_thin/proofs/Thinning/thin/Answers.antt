use mathlib.Core.Path.{refl}
use Rattle.laws.proofs.InPlace.{mapped-all}
use Rattle.canny_thin.proofs.Thinning.thin.Goals as goal

pub returns : goal.returns
returns c = mapped-all c.loop-j.invariant refl c.loop-j-test.false
