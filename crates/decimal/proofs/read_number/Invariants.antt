-- `decimal::read_number` meets its contract. The invariant: the value is the number of the digits before b. Assumes nothing.
use Rattle.decimal.proofs.Numbers.{Read}
use Rattle.decimal.proofs.read_number.Given as goal

abbrev pub invariant-loop-b : goal.invariant-loop-b
invariant-loop-b l = Read l.most l.part l.value l.b-index
