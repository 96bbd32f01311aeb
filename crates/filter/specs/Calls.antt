-- A list of calls on one detector, as the filter sees them, and how a detector over the filter acts on them (RULES 7.1, 14.5). Each call of a
-- content detector is one of these: a frame call that it accepts is a `frame` here, whatever the pixels were.
use Rattle.std.specs.Prelude.{ℕ, Bool, true, false, ◌&&◌, List, [], ◌∷◌, eqb, None, Option}
use Rattle.timestamp.specs.declared.Timestamp.{Timestamp}
use Rattle.filter.specs.declared.FilterOptions.{FilterOptions}
use Rattle.filter.specs.declared.Filter.{Filter}
use Rattle.filter.specs.declared.FilterStep.{FilterStep}
use Rattle.filter.specs.Flash.{fresh, flash_filter}

-- a frame: its stamp, and whether its score is at or over its threshold (RULES 6.7). Of a frame without a score `above` is never asked.
pub record Frame : Type 0 where
  pub stamp : Timestamp
  pub above : Bool

-- a call, as far as it concerns the filter
pub data FilterCall : Type 0 where
  refused : FilterCall  -- a call that is refused
  frame : (width height : ℕ) → Frame → FilterCall  -- an accepted frame call
  clear : FilterCall  -- an accepted `clear`

-- what one call hands to the next: whether there is a previous frame, its width and height, and the filter (RULES 8.3)
pub record State : Type 0 where
  pub has_previous : Bool
  pub width : ℕ
  pub height : ℕ
  pub filter : Filter

-- the state after a call, and the cut or none that it returns
pub record Turn : Type 0 where
  pub state : State
  pub cut : Option Timestamp

-- the fresh state, which a settings call returns: no frame yet, size 0 × 0, a fresh filter (RULES 8.2)
abbrev pub start : State
start = record { has_previous = false; width = 0; height = 0; filter = fresh }

-- a frame of this size has a score: there is a previous frame of the same width and height (RULES 6.5)
abbrev pub has_score : State → (width height : ℕ) → Bool
has_score st w h = eqb st.width w && eqb st.height h && st.has_previous

-- a frame with a score goes to the filter; one without starts a stretch, gives no cut and leaves a fresh filter, not yet seeded (RULES 6.5, 8.5)
abbrev pub filtered : FilterOptions → (scored : Bool) → Filter → Frame → FilterStep
filtered o true φ f = flash_filter o φ f.stamp f.above
filtered o false φ f = record { filter = fresh; cut = None }

-- the state and the cut or none after a frame of this size, by the filter's step
abbrev pub turn_to : (width height : ℕ) → FilterStep → Turn
turn_to w h s = record { state = record { has_previous = true; width = w; height = h; filter = s.filter }; cut = s.cut }

-- a refusal returns the old state and no cut (RULES 10.3); `clear` keeps the size, and all else is as at the start (RULES 8.7)
abbrev pub turn : FilterOptions → State → FilterCall → Turn
turn o st refused = record { state = st; cut = None }
turn o st (frame w h f) = turn_to w h (filtered o (has_score st w h) st.filter f)
turn o st clear = record { state = record { has_previous = false; width = st.width; height = st.height; filter = fresh }; cut = None }

-- a call with what it brought
infixl 20 ◌brought◌
pub data Answered (A : Type 0) : Type 0 where
  ◌brought◌ : FilterCall → A → Answered A

-- each call gets the state that the last one returned (RULES 14.5)
abbrev pub filter_run_from : FilterOptions → State → List FilterCall → List (Answered (Option Timestamp))
filter_run_from o st [] = []
filter_run_from o st (c ∷ cs) = (c brought (turn o st c).cut) ∷ filter_run_from o (turn o st c).state cs

-- a list of calls, from a fresh state (RULES 14.5)
abbrev pub filter_run : FilterOptions → List FilterCall → List (Answered (Option Timestamp))
filter_run o calls = filter_run_from o start calls
