-- `List::calls` meets its contract: a writer for each call.
use Rattle.compare_lists.specs.Wrote.{Written}
use Rattle.compare_lists.proofs.calls.List.calls.Given as goal

abbrev pub invariant-loop-i : goal.invariant-loop-i
invariant-loop-i g l = Written l.fn.out l.out
