-- `canny_marks::sums` meets its contract. The invariant: the sums before v are made. Assumes nothing.
use mathlib.Core.List.{[]}
use lib.ListN.{get_or}
use Rattle.std.specs.List.{sum}
use Rattle.laws.proofs.Tab.{Filled}
use Rattle.canny_marks.proofs.sums.Given as goal

abbrev pub invariant-loop-v : goal.invariant-loop-v
invariant-loop-v l = Filled 0 (λ v. sum (get_or l.counts v [])) 256 l.v l.n-items
