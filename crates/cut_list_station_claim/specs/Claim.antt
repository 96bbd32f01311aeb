-- What holds of every list of calls that a station makes on one list of stamps, from the words that a new list wrote and memory of at least 512
-- places (RULES 17.14): what the definitions of the operations give, one after the other, and so what 17.11 and 17.12 say.
use Rattle.std.specs.Prelude.{◌≡◌, false, List, map, ℕ, ℤ, drop}
use Rattle.laws.specs.Lists.{All}
use Rattle.cut_list.specs.Record.{places, held, new_list, stamps_of}
use Rattle.cut_list.specs.Change.{same, any_of}
use Rattle.cut_list_claim.specs.Run.{add, list_run, list_after, added_since}
use Rattle.cut_list_claim.specs.Claim.{Apart, fitting_numbers}
use Rattle.cut_list_station.specs.Words.{list_of}
use Rattle.cut_list_station.specs.Promises.{NewContract}
use Rattle.cut_list_station_claim.specs.Run.{ListCall, operation_of, operated_by, ListCallsMade}

-- the claim about a list of calls from memory m to the words s' and memory m'
pub record CallsOnList (minimum : ℕ) (m : List ℤ) (ys : List ListCall) (s' : List ℕ) (m' : List ℤ) : Type 0 where
  -- each call returns the number that the definitions give
  pub numbers : map operated_by ys ≡ list_run (held (new_list minimum) m) (map operation_of ys)
  -- words and memory hold the list that the definitions leave
  pub left : held (list_of s') m' ≡ list_after (held (new_list minimum) m) (map operation_of ys)
  -- no call returns 15
  pub never-bad : All (λ (y : ListCall). (y.number ≡ 15) → ⊥) ys
  -- the stamps rise and keep the distance
  pub apart : Apart minimum (stamps_of (held (list_of s') m'))
  -- a stamp is in the list exactly if it was added and neither removed nor emptied out since
  pub members : (t : ℤ) → any_of (same t) (stamps_of (held (list_of s') m')) ≡ added_since t false (map operated_by ys)
  -- the minimum stays, and so do the places from 512 on
  pub minimum-stays : (list_of s').min_duration ≡ minimum
  pub rest-stays : drop places m' ≡ drop places m

-- Stamps that calls can add in their order to a new list: none returns 17, and 18 only those from the 513th on (RULES 17.12).
abbrev pub FitsByCalls : (minimum : ℕ) → (m : List ℤ) → List ℤ → Type 0
FitsByCalls d m ts =
    (s s' : List ℕ) (m' : List ℤ) (ys : List ListCall) → NewContract d s → ListCallsMade s m ys s' m' → map operation_of ys ≡ map add ts
    → map (λ (y : ListCall). y.number) ys ≡ fitting_numbers ts
