use Rattle.std.proofs.Common.{◌<◌, arith}
use Rattle.laws.proofs.Grid.{row-end}
use Rattle.dilate.proofs.Columns.row.Goals.{in-Down, in-Up}
use Rattle.dilate.proofs.Columns.row.Goals as goal

pub returns-clause-inside : goal.returns-clause-inside
returns-clause-inside c =
    let b : c.match-self.y < c.args.self.h = elim c.match-self.branch [ in-Down w ↦ omega arith | in-Up w ↦ omega arith ] in
    omega (arith, row-end c.match-self.y c.args.self.w c.args.self.h b)
