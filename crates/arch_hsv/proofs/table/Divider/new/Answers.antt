-- `arch_hsv::table::Divider::new` makes a right table: the rule is a test at each of the 256 entries, which antt computes. Assumes nothing.
use mathlib.Core.Path.{refl}
use Rattle.arch_hsv.specs.declared.table.TheConstants.{RECIPROCALS}
use Rattle.arch_hsv.proofs.Reciprocal.{right, reciprocals-at}
use Rattle.arch_hsv.proofs.table.Divider.new.Goals as goal

pub invariant_of-result : goal.invariant_of-result
unfolding right
invariant_of-result c = record { right = reciprocals-at RECIPROCALS tt refl }
