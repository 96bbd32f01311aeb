-- `arch_hsv::sixths` meets its contract. Assumes nothing.
use Rattle.arch_hsv.proofs.ByCases.{sixths-is}
use Rattle.arch_hsv.proofs.sixths.Goals as goal

pub returns-clause-value : goal.returns-clause-value
returns-clause-value c =
    let a = c.args in
    let q = c.requires in
    sixths-is a.b a.g a.r a.v a.d q.largest q.spread _ _ _ c.pick.ensures c.pick-2.ensures c.pick-3.ensures
