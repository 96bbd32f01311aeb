-- `session::put_field` meets its contract: a number, and a comma after it. Assumes nothing.
use native.Mathlib.Omega.{arith}
use Rattle.decimal.proofs.Lengths.{decimal_length}
use Rattle.decimal.proofs.Writes.{wrote_next}
use Rattle.session.proofs.put_field.Goals as goal

pub put_byte-requires : goal.put_byte-requires
put_byte-requires c = omega (arith, decimal_length c.args.n)

pub returns : goal.returns
returns c = wrote_next (omega arith) c.put_number.ensures c.put_byte.ensures
