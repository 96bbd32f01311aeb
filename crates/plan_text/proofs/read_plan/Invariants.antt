-- `plan_text::read_plan` meets its contract. In the loop the first n rows are those of the lines taken so far. Assumes nothing.
use Rattle.std.specs.Slice.Iter.{split_inclusive_rest}
use Rattle.plan_text.proofs.Texts.{Taken}
use Rattle.plan_text.proofs.read_plan.Given as goal

abbrev pub invariant-loop-line : goal.invariant-loop-line
invariant-loop-line l =
    (goal.iterator-loop-line).can_next l.line-iterator ×
    ((goal.iterator-loop-line).is_finite l.line-iterator ×
    Taken l.text l.rows (split_inclusive_rest l.line-iterator) l.n)
