-- Each byte is the largest of those within reach of it.
use Rattle.std.proofs.Common.{◌≡◌, ℕ, ◌-◌, ◌<◌, ◌≤◌, length, get_or}
use Rattle.dilate.specs.Dilate.{around}
use Rattle.dilate.proofs.dilate_line.Given as goal

abbrev pub invariant-loop-reach : goal.invariant-loop-reach
invariant-loop-reach l = record {
  reached : l.reach ≤ l.most;
  largest : (i : ℕ) → i < length l.fn.line → get_or l.line i 0 ≡ around (length l.fn.line) l.reach i (λ j. get_or l.fn.line j 0);
}

abbrev pub decreases-loop-reach : goal.decreases-loop-reach
decreases-loop-reach l = l.most - l.reach
