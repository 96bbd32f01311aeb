-- `marks::put_table` meets its contract: the header, and the rows after it. Assumes nothing.
use mathlib.Core.Path.{refl}
use Rattle.std.proofs.Common.{rules}
use Rattle.marks.proofs.Rows.{table-wrote}
use Rattle.marks.proofs.put_table.Goals as goal

pub returns : goal.returns
returns c = let w = table-wrote _ refl c.put_text.ensures c.put_rows.ensures in search rules
