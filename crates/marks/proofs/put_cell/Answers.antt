-- `marks::put_cell` meets its contract: a number, and a byte after it. Assumes nothing.
use native.Mathlib.Omega.{arith}
use Rattle.decimal.proofs.Lengths.{decimal_length}
use Rattle.decimal.proofs.Writes.{wrote_next}
use Rattle.marks.proofs.put_cell.Goals as goal

pub put_byte-requires : goal.put_byte-requires
put_byte-requires c = omega (arith, decimal_length c.from.result)

pub returns : goal.returns
returns c = rw (← c.from.ensures) (wrote_next (omega arith) c.put_number.ensures c.put_byte.ensures)
