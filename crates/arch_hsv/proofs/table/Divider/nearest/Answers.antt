-- `arch_hsv::table::Divider::nearest` meets its contract. Assumes nothing.
use native.Mathlib.Omega.{arith}
use Rattle.arch_hsv.proofs.Reciprocal.{nearest-is}
use Rattle.arch_hsv.proofs.table.Divider.nearest.Goals as goal

pub returns : goal.returns
returns c =
    let p = c.args.self.now in
    nearest-is p.reciprocals c.args.a c.args.b p.right (omega arith) c.requires
