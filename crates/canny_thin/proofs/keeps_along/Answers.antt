-- `canny_thin::keeps_along` meets its contract. Assumes nothing.
use Rattle.canny_thin.proofs.Near.{along-is}
use Rattle.canny_thin.proofs.keeps_along.Goals as goal

pub returns : goal.returns
returns c =
    let a = c.args in
    along-is a.mag.now a.w a.dir a.i _ _ _ _ _ _ _ c.keeps_by-across.ensures c.keeps_by-fall.ensures c.keeps_by-down.ensures
    c.keeps_by-rise.ensures c.pick.ensures c.pick-2.ensures c.pick-3.ensures
