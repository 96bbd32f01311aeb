-- `session::Session::new` meets its contract: whatever settings say of the defaults, their detector is fresh. Assumes nothing.
use mathlib.Core.Path.{ap, ◌∙◌}
use Rattle.content.specs.declared.Detector.{Detector}
use Rattle.content.specs.State.{Settled}
use Rattle.session.specs.declared.Session.{Session}
use Rattle.session.specs.Sessions.{new_session}
use Rattle.session.proofs.Calls.{settled-defaults}
use Rattle.session.proofs.Session.new.Goals as goal

abbrev with_detector : Detector → Session
with_detector d = record new_session { detector = d }

pub returns : goal.returns
returns c = ap with_detector (c.state_of.ensures ∙ ap (λ (r : Settled). r.detector) c.try_new.ensures ∙ settled-defaults _ c.new.ensures)
