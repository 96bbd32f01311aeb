-- A list of calls on one adaptive detector, as its window sees them (RULES 9.4, 9.11, 14.5). Each of the detector's own calls is one of these:
-- a frame call that it accepts is `scored` here, or `unscored` where it starts a stretch, whatever the pixels were.
use Rattle.std.specs.Prelude.{List, [], ◌∷◌, Float, Option}
use Rattle.timestamp.specs.declared.Timestamp.{Timestamp}
use Rattle.window.specs.declared.WindowOptions.{WindowOptions}
use Rattle.window.specs.declared.Window.{Window}
use Rattle.window.specs.declared.WindowStep.{WindowStep}
use Rattle.window.specs.Window.{fresh, unchanged, push_and_check}

-- a call, as far as it concerns the window
pub data WindowCall : Type 0 where
  refused : WindowCall  -- a call that is refused
  unscored : WindowCall  -- an accepted frame call without a score: the first of a stretch
  scored : Timestamp → Float → WindowCall  -- an accepted frame call with a score
  clear : WindowCall  -- an accepted `clear`

-- a refusal returns the old state and no cut (RULES 10.3); a frame without a score gives no cut and leaves the window as it is, whatever the
-- frame's size (RULES 9.4); only `clear` drops it (RULES 9.11)
abbrev pub turn : WindowOptions → Window → WindowCall → WindowStep
turn o s refused = unchanged s
turn o s unscored = unchanged s
turn o s (scored ts x) = push_and_check o s ts x
turn o s clear = unchanged fresh

-- a call with what it brought
infixl 20 ◌brought◌
pub data Answered (A : Type 0) : Type 0 where
  ◌brought◌ : WindowCall → A → Answered A

-- each call gets the state that the last one returned (RULES 14.5)
abbrev pub window_run_from : WindowOptions → Window → List WindowCall → List (Answered (Option Timestamp))
window_run_from o s [] = []
window_run_from o s (c ∷ cs) = (c brought (turn o s c).cut) ∷ window_run_from o (turn o s c).window cs

-- a list of calls, from a fresh state (RULES 14.5)
abbrev pub window_run : WindowOptions → List WindowCall → List (Answered (Option Timestamp))
window_run o calls = window_run_from o fresh calls
