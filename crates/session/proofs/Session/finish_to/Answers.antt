-- `session::Session::finish_to` meets its contract: nothing is held, or the last line is ended. Assumes nothing.
use borrow.Author.Rules.{rules}
use Rattle.session.proofs.Feeding.{finishes-line, finishes-none}
use Rattle.session.proofs.Session.finish_to.Goals as goal

pub returns-then-self-gt0-clause-state : goal.returns-then-self-gt0-clause-state
returns-then-self-gt0-clause-state c = (finishes-line _ _ _ _ (search rules) c.if-self-gt0.true c.end_line.ensures).0

pub returns-then-self-gt0-clause-text : goal.returns-then-self-gt0-clause-text
returns-then-self-gt0-clause-text c = (finishes-line _ _ _ _ (search rules) c.if-self-gt0.true c.end_line.ensures).1

pub returns-else-self-gt0-clause-state : goal.returns-else-self-gt0-clause-state
returns-else-self-gt0-clause-state c = (finishes-none c.args.self.now c.args.text.now c.if-self-gt0.false).0

pub returns-else-self-gt0-clause-text : goal.returns-else-self-gt0-clause-text
returns-else-self-gt0-clause-text c = (finishes-none c.args.self.now c.args.text.now c.if-self-gt0.false).1
