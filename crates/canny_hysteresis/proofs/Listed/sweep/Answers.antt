use Rattle.std.proofs.Common.{◌∙◌, rules}
use Rattle.canny_hysteresis.proofs.Visits.{swept-more, swept-all}
use Rattle.canny_hysteresis.proofs.Listed.sweep.Goals as goal

pub loop-k-preserved : goal.loop-k-preserved
loop-k-preserved c =
    let a = c.args in
    let visited = rw c.beside.ensures at c.visit_place.ensures in
    swept-more a.way a.self.now.w a.self.now.places.now a.s.now c.loop-k.invariant c.loop-k-test.true c.nth.ensures.nth (search rules) visited

pub returns : goal.returns
returns c = c.loop-k.invariant ∙ swept-all c.args.way c.args.self.now.w c.args.self.now.places.now c.args.s.now c.loop-k-test.false
