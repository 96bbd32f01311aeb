-- The counter is one ahead of the steps taken.
use Rattle.std.proofs.Common.{◌-◌, ◌≤◌}
use Rattle.laws.proofs.Stepped.{Stepped}
use Rattle.replay_list.specs.Numbers.{less_of}
use Rattle.replay_list.proofs.starts.back.Given as goal

abbrev pub invariant-loop : goal.invariant-loop
invariant-loop l = (l.counter - 1 ≤ l.n - 1) × Stepped (λ _ m. less_of m l.step) 18446744073709551615 (l.counter - 1) l.first
