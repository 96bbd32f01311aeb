-- `frame_line::read_line` meets its contract. In the loop luma begins with the values taken so far. Assumes nothing.
use Rattle.decimal.proofs.Parts.{left}
use Rattle.frame_line.proofs.Lines.{Head}
use Rattle.frame_line.proofs.Values.{Taken}
use Rattle.frame_line.proofs.read_line.Given as goal

abbrev pub invariant-loop-value : goal.invariant-loop-value
invariant-loop-value l = record {
  head : Head l.line l.stamp l.width l.height (left 44 l.initial.fields);
  taken : Taken (left 44 l.initial.fields) l.value-items (left 44 l.fields) l.value-index;
}
