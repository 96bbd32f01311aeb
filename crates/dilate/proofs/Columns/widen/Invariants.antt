-- The blocks before start are done, and the places from start on are as they were.
use Rattle.std.proofs.Common.{◌+◌, min}
use Rattle.laws.specs.Lists.{max_in}
use Rattle.dilate.specs.Places.{along, Rewritten}
use Rattle.dilate.proofs.Columns.widen.Given as goal

abbrev pub invariant-loop-start : goal.invariant-loop-start
invariant-loop-start l = Rewritten l.self 0 l.start (λ x v. max_in v (min l.self.h (v + l.self.n)) (along l.self l.fn.plane x)) l.fn.plane l.plane
