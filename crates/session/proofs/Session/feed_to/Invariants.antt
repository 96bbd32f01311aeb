-- `session::Session::feed_to` meets its contract: the loop feeds line by line while there is room for a line's text. Assumes nothing.
use mathlib.Core.Path.{◌≡◌}
use lib.ListN.{drop}
use Rattle.std.specs.Slice.Iter.{split_inclusive_rest}
use Rattle.session.specs.Sessions.{state_of}
use Rattle.session.proofs.Feeding.{Taken}
use Rattle.session.proofs.Session.feed_to.Given as goal

abbrev pub invariant-loop-bytes : goal.invariant-loop-bytes
invariant-loop-bytes l =
    (goal.iterator-loop-bytes).can_next l.bytes-iterator ×
    ((goal.iterator-loop-bytes).is_finite l.bytes-iterator ×
    ((split_inclusive_rest l.bytes-iterator ≡ drop l.taken l.chunk) ×
    Taken (state_of l.initial.self) l.chunk l.initial.text (state_of l.self) l.text l.taken))
