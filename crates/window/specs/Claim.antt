-- What holds of every list of adaptive calls, as the window sees them: from `clear` to `clear` the cuts keep the distance, over changes of size
-- too, whatever the stamps do (RULES 14.12). Everything here is said of the calls and their answers alone, and nothing of the detector's state.
use Rattle.std.specs.Prelude.{◌≡◌, Bool, true, false, List, [], ◌∷◌, Option}
use Rattle.laws.specs.Lists.{leave_out, All}
use Rattle.filter.specs.Claim.{cuts_in, KeepsDistance}
use Rattle.window.specs.declared.WindowOptions.{WindowOptions}
use Rattle.window.specs.Calls.{WindowCall, refused, unscored, scored, clear, Answered, ◌brought◌, window_run}
use Rattle.timestamp.specs.declared.Timestamp.{Timestamp}

-- ---- refused calls left out (RULES 14.6)

-- a refused call
abbrev pub window_refused : WindowCall → Bool
window_refused refused = true
window_refused unscored = false
window_refused (scored ts x) = false
window_refused clear = false

-- the call of an answered call
abbrev pub call_of : {A : Type 0} → Answered A → WindowCall
call_of (c brought a) = c

-- the answered calls that were not refused
abbrev pub without_refused : {A : Type 0} → List (Answered A) → List (Answered A)
without_refused {A} xs = leave_out (λ (x : Answered A). window_refused (call_of x)) xs

-- ---- from `clear` to `clear` (RULES 14.12)

-- an answer, put before the parts of the answers after it: it joins the first part
abbrev pub joined_part : {A : Type 0} → A → List (List A) → List (List A)
joined_part a [] = (a ∷ []) ∷ []
joined_part a (p ∷ ps) = (a ∷ p) ∷ ps

-- The answers in parts, each of which but the last ends with that of a `clear` (RULES 14.12). The division is by the calls alone: it is the same
-- whatever the answers are, and of whatever type. Every answer is in a part.
abbrev pub from_clear_to_clear : {A : Type 0} → List (Answered A) → List (List A)
from_clear_to_clear [] = [] ∷ []
from_clear_to_clear ((refused brought a) ∷ xs) = joined_part a (from_clear_to_clear xs)
from_clear_to_clear ((unscored brought a) ∷ xs) = joined_part a (from_clear_to_clear xs)
from_clear_to_clear ((scored ts x brought a) ∷ xs) = joined_part a (from_clear_to_clear xs)
from_clear_to_clear ((clear brought a) ∷ xs) = (a ∷ []) ∷ from_clear_to_clear xs

-- ---- the claim

-- the cuts of a part keep the distance: each is at least the minimum past the one before (RULES 14.8)
abbrev pub PartKeeps : WindowOptions → List (Option Timestamp) → Type 0
PartKeeps o answers = KeepsDistance o.min_duration (cuts_in answers)

-- the claim about calls and what they brought: from `clear` to `clear` the cuts keep the distance (RULES 14.12)
abbrev pub PartsHold : WindowOptions → List (Answered (Option Timestamp)) → Type 0
PartsHold o xs = All (PartKeeps o) (from_clear_to_clear xs)

-- the claim about a list of calls from a fresh state
pub record WindowClaim (o : WindowOptions) (calls : List WindowCall) : Type 0 where
  pub holds : PartsHold o (window_run o calls)
  -- when refused calls are left out, each other call brings what it brought (RULES 14.6)
  pub left_out : window_run o (leave_out window_refused calls) ≡ without_refused (window_run o calls)
