use Rattle.canny_thin.proofs.Rows.{no-row, row-put}
use Rattle.canny_thin.proofs.magnitude_row.Goals as goal

pub returns-then-y-luma : goal.returns-then-y-luma
returns-then-y-luma c =
    let p = c.args.luma.now in
    row-put p.bytes.now c.args.mag.now _ p.w p.h c.args.y c.requires c.if-y-luma.true c.magnitudes.ensures

pub returns-else-y-luma : goal.returns-else-y-luma
returns-else-y-luma c =
    let p = c.args.luma.now in
    no-row p.bytes.now c.args.mag.now p.w p.h c.args.y c.requires c.if-y-luma.false
