use Rattle.std.proofs.Common.{arith}
use Rattle.dilate.proofs.RowsDilated.{rows-more}
use Rattle.dilate.proofs.dilate_rows.Goals as goal

pub loop-y-preserved : goal.loop-y-preserved
loop-y-preserved c =
    rows-more c.args.h _ c.loop-y.invariant c.loop-y-test.true (omega arith) c.dilate_line.auto.line c.dilate_line.ensures
