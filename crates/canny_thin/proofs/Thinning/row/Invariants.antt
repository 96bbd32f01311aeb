use Rattle.std.proofs.Common.{◌≤◌}
use Rattle.canny_thin.specs.Blocks.{class_in}
use Rattle.canny_thin.proofs.Rows.{Begun}
use Rattle.canny_thin.proofs.Thinning.row.Given as goal

abbrev pub invariant-loop-x : goal.invariant-loop-x
invariant-loop-x l = record {
  begun : Begun (λ x. class_in l.self.luma.bytes.now l.self.mag.now l.self.luma.w l.self.luma.h l.self.low l.self.high x l.y) l.self.luma.w l.x l.row;
  within : l.x ≤ l.last;
}
