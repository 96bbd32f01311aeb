-- `canny_marks::count_fours` meets its contract. The invariant: the groups before are counted. Assumes nothing.
use Prim.Native.Nat.{◌*◌}
use lib.ListN.{take}
use Rattle.std.specs.List.{concat}
use Rattle.canny_marks.proofs.Counts.{InFour}
use Rattle.canny_marks.proofs.count_fours.Given as goal

abbrev pub invariant-loop-a : goal.invariant-loop-a
invariant-loop-a l = InFour (concat (take l.a-index l.fours)) (4 * l.a-index) l.counts
