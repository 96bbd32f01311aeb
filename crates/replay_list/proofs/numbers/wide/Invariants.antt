-- A step for each byte passed.
use Rattle.std.proofs.Common.{◌+◌, get_or}
use Rattle.laws.proofs.Stepped.{Stepped}
use Rattle.replay_list.specs.Numbers.{pushed_of}
use Rattle.replay_list.proofs.numbers.wide.Given as goal

abbrev pub invariant-loop-i : goal.invariant-loop-i
invariant-loop-i l = Stepped (λ k m. pushed_of m (get_or l.r (l.at + k) 0)) 0 l.i l.n
