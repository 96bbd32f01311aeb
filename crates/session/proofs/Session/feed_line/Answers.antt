-- `session::Session::feed_line` meets its contract: bytes and a line feed, or bytes alone. Assumes nothing.
use Rattle.session.proofs.Feeding.{feeds-line, feeds-quiet}
use Rattle.session.proofs.Session.feed_line.Goals as goal

pub returns-in-Some-clause-state : goal.returns-in-Some-clause-state
returns-in-Some-clause-state c = (feeds-line _ _ _ _ _ _ _ c.in-Some.ensures.cases.0 c.in-Some.ensures.cases.1 c.requires.0 c.hold.ensures c.end_line.ensures).0

pub returns-in-Some-clause-text : goal.returns-in-Some-clause-text
returns-in-Some-clause-text c = (feeds-line _ _ _ _ _ _ _ c.in-Some.ensures.cases.0 c.in-Some.ensures.cases.1 c.requires.0 c.hold.ensures c.end_line.ensures).1

pub returns-in-None-clause-state : goal.returns-in-None-clause-state
returns-in-None-clause-state c = (feeds-quiet _ _ c.args.text.now _ c.in-None.ensures.cases c.requires.0 c.hold-in-None.ensures).0

pub returns-in-None-clause-text : goal.returns-in-None-clause-text
returns-in-None-clause-text c = (feeds-quiet _ _ c.args.text.now _ c.in-None.ensures.cases c.requires.0 c.hold-in-None.ensures).1
