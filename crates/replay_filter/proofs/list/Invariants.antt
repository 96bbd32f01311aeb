-- The invariant: run and store are those after the calls passed.
use Rattle.std.proofs.Common.{◌≡◌, ◌<◌}
use Rattle.replay_filter.specs.Lists.{calls_of}
use Rattle.replay_filter.proofs.list.Given as goal

abbrev pub invariant-loop : goal.invariant-loop
invariant-loop l =
    (l.run.place < 16) × ((l.run ≡ (calls_of l.wide l.initial.run l.counter).run) × (l.memory.store ≡ (calls_of l.wide l.initial.run l.counter).store))
