-- `canny_marks::median_of_histogram` meets its contract. The invariant: half of the bytes are those below v and `before` more. Assumes nothing.
use mathlib.Core.Path.{◌≡◌}
use mathlib.Core.List.{List}
use Prim.Native.Nat.{ℕ, ◌+◌, ◌/◌}
use lib.Dec.{eqb}
use lib.ListN.{length}
use Rattle.laws.specs.Lists.{tabulate}
use Rattle.canny_marks.specs.Median.{count}
use Rattle.canny_marks.proofs.Counts.{below}
use Rattle.canny_marks.proofs.median_of_histogram.Given as goal

abbrev pub invariant-loop-v : goal.invariant-loop-v
invariant-loop-v l =
    (luma : List ℕ) → l.hist ≡ tabulate 256 (λ v. count (λ b. eqb b v) luma) → l.n ≡ length luma → l.before + below l.v luma ≡ length luma / 2
