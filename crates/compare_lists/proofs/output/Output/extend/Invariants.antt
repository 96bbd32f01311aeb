-- `Output::extend` meets its contract: a writer for each byte.
use Rattle.compare_lists.specs.Wrote.{Written}
use Rattle.compare_lists.proofs.output.Output.extend.Given as goal

abbrev pub invariant-loop-b : goal.invariant-loop-b
invariant-loop-b l = Written l.fn.self l.self
