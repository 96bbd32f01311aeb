-- Lists of station calls on one detector, and what a station sees of each call (RULES 14.14).
use Rattle.std.specs.Prelude.{◌≡◌, Bool, true, false, cond, not, List, [], ◌∷◌, ℕ, eqb, None, Option}
use Rattle.frame_call.specs.Call.{Memory, memory, Call, clear, by_call}
use Rattle.station_answer.specs.Answer.{cut_in}
use Rattle.station_answer.specs.Promises.{Layout, Brought, FrameContract, ClearContract}
use Rattle.timestamp.specs.declared.Timestamp.{Timestamp}

-- whether a call is a frame call, and the memory that it is lent; `clear` is lent none
abbrev pub is_frame : Call → Bool
is_frame c = by_call (λ u w h p ts m. true) false c

abbrev pub memory_in : Call → Memory
memory_in c = by_call (λ u w h p ts m. m) (memory [] [] []) c

-- what a station sees of a call that it made: the call, the number that was returned, and the words of the state, the words of the answer
-- and the store after it (RULES 14.14); `clear` is lent neither an answer nor a store
pub record StationCall : Type 0 where
  pub call : Call
  pub number : ℕ
  pub state : List ℕ
  pub answer : List ℕ
  pub store : List ℕ

-- a refused call: it did not return 0
abbrev pub was_refused : StationCall → Bool
was_refused y = not (eqb y.number 0)

-- the cut or none that the station reads from the answer's words; a refused call has none (RULES 14.14)
abbrev pub cut_read : StationCall → Option Timestamp
cut_read y = cond (eqb y.number 0) (cut_in y.answer) None

module _ {D : Type 0} (l : Layout D) (calls : D → Call → Brought D) where
  -- a call that meets its contract (RULES 15.3, 15.6), with the state's words s before it; the answer's words a before it are any
  pub data Made : (s : List ℕ) → StationCall → Type 0 where
    by-frame : {s s' a a' : List ℕ} {r : ℕ} {m' : Memory} → (c : Call) → is_frame c ≡ true
        → FrameContract l (calls (l.held_by s) c) r s s' a a' (memory_in c) m'
        → Made s (record { call = c; number = r; state = s'; answer = a'; store = m'.store })
    by-clear : {s s' : List ℕ} {r : ℕ} → ClearContract l (calls (l.held_by s) clear) r s s'
        → Made s (record { call = clear; number = r; state = s'; answer = []; store = [] })

  -- a list of such calls from the words s: each call gets the words that the last one left (RULES 14.14)
  pub data MadeFrom : (s : List ℕ) → List StationCall → Type 0 where
    none : {s : List ℕ} → MadeFrom s []
    then : {s : List ℕ} {y : StationCall} {ys : List StationCall} → Made s y → MadeFrom y.state ys → MadeFrom s (y ∷ ys)
