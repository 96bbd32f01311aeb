-- `cuts::run` meets its contract: each turn of the loop is one read. Assumes nothing.
use mathlib.Core.Path.{◌≡◌}
use Rattle.cuts.proofs.run.Given as goal

abbrev pub invariant-loop : goal.invariant-loop
invariant-loop g l = l.reads ≡ l.counter
