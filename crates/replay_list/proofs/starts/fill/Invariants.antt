-- The places below the index are written, and n is the number of the next.
use Rattle.std.proofs.Common.{◌+◌, ◌%◌, pos}
use Rattle.laws.proofs.Stepped.{Stepped}
use Rattle.laws.proofs.Tab.{Filled}
use Rattle.replay_list.specs.Numbers.{stamp_of}
use Rattle.replay_list.specs.Fill.{number_at}
use Rattle.replay_list.proofs.starts.fill.Given as goal

abbrev pub invariant-loop-micros : goal.invariant-loop-micros
invariant-loop-micros l =
    Stepped (λ _ m. (m + l.step) % 18446744073709551616) l.first l.micros-index l.n
    × Filled (pos 0) (λ k. stamp_of (number_at l.first l.step k)) 600 l.micros-index l.memory
