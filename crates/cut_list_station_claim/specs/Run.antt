-- Lists of station calls on one list of stamps, and what a station sees of each call (RULES 17.14).
use Rattle.std.specs.Prelude.{List, [], ◌∷◌, ℕ, ℤ}
use Rattle.cut_list.specs.Record.{held}
use Rattle.cut_list.specs.Change.{added, removed, emptied}
use Rattle.cut_list.specs.Find.{nearest_in, span_in, clip_in}
use Rattle.cut_list_claim.specs.Run.{Operation, add, remove, empty, nearest, span, clip, Operated}
use Rattle.cut_list_station.specs.Words.{list_of}
use Rattle.cut_list_station.specs.Promises.{ChangeContract, NearestContract, SpanContract, ClipContract}

-- what a station sees of a call that it made on a list: the operation, the number that was returned, and the record's words and the memory
-- after it
pub record ListCall : Type 0 where
  pub operation : Operation
  pub number : ℕ
  pub words : List ℕ
  pub memory : List ℤ

-- the operation of a call, and the operation with its number
abbrev pub operation_of : ListCall → Operation
operation_of y = y.operation

abbrev pub operated_by : ListCall → Operated
operated_by y = record { operation = y.operation; number = y.number }

-- a call that meets its contract, with the record's words s and the memory m before it; the answer's words a before it are any. A reader is lent
-- words and memory for reading alone.
pub data ListCallMade : (s : List ℕ) → (m : List ℤ) → ListCall → Type 0 where
  by-add : {s s' : List ℕ} {m m' : List ℤ} {r : ℕ} → (t : ℤ) → ChangeContract (added (held (list_of s) m) t) r s s' m'
      → ListCallMade s m (record { operation = add t; number = r; words = s'; memory = m' })
  by-remove : {s s' : List ℕ} {m m' : List ℤ} {r : ℕ} → (t : ℤ) → ChangeContract (removed (held (list_of s) m) t) r s s' m'
      → ListCallMade s m (record { operation = remove t; number = r; words = s'; memory = m' })
  by-empty : {s s' : List ℕ} {m m' : List ℤ} {r : ℕ} → ChangeContract (emptied (held (list_of s) m)) r s s' m'
      → ListCallMade s m (record { operation = empty; number = r; words = s'; memory = m' })
  by-nearest : {s a a' : List ℕ} {m : List ℤ} {r : ℕ} → (t : ℤ) → NearestContract (nearest_in (held (list_of s) m) t) r a a'
      → ListCallMade s m (record { operation = nearest t; number = r; words = s; memory = m })
  by_span : {s a a' : List ℕ} {m : List ℤ} {r : ℕ} → (from to : ℤ) → SpanContract (span_in (held (list_of s) m) from to) r a a'
      → ListCallMade s m (record { operation = span from to; number = r; words = s; memory = m })
  by-clip : {s a a' : List ℕ} {m : List ℤ} {r : ℕ} → (t : ℤ) → ClipContract (clip_in (held (list_of s) m) t) r a a'
      → ListCallMade s m (record { operation = clip t; number = r; words = s; memory = m })

-- a list of such calls from the words s and the memory m to s' and m': each call gets the words and the memory that the last one left
pub data ListCallsMade : (s : List ℕ) → (m : List ℤ) → List ListCall → (s' : List ℕ) → (m' : List ℤ) → Type 0 where
  none : {s : List ℕ} {m : List ℤ} → ListCallsMade s m [] s m
  then : {s s' : List ℕ} {m m' : List ℤ} {y : ListCall} {ys : List ListCall} → ListCallMade s m y → ListCallsMade y.words y.memory ys s' m'
      → ListCallsMade s m (y ∷ ys) s' m'
