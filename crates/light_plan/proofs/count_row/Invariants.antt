-- The places before n have one more, the others are as they were.
use Rattle.std.proofs.Common.{◌≡◌, ℕ, ◌+◌, ◌<◌, ◌≤◌, get_or}
use Rattle.light_plan.proofs.count_row.Given as goal

abbrev pub invariant-loop-n : goal.invariant-loop-n
invariant-loop-n l = record {
  done : (k : ℕ) → k < l.n-index → get_or l.n-items k 0 ≡ get_or l.initial.n-items k 0 + 1;
  rest : (k : ℕ) → l.n-index ≤ k → get_or l.n-items k 0 ≡ get_or l.initial.n-items k 0;
}
