-- The count is 0 exactly where there was no room.
use Rattle.compare_session.proofs.Counted.{counted}
use Rattle.compare_session.proofs.mw_session.Goals as goal

pub returns-in-Some : goal.returns-in-Some
returns-in-Some c = counted _ _ _ _ c.in-Some.ensures

pub returns-in-None : goal.returns-in-None
returns-in-None c = c.in-None.ensures
