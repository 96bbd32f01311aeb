-- What the station's calls on a list promise (RULES 17.14). `s` is the record's words at entry and `s'` at exit, `m'` the stamps' memory at exit, `a`
-- and `a'` the answer's words at entry and at exit, `r` the number that is returned.
use Rattle.std.specs.Prelude.{◌≡◌, List, [], ◌∷◌, ℕ, ℤ, Option}
use Rattle.words.specs.Choices.{stamp_tag, stamp_word, stamp_of}
use Rattle.words.specs.Stream.{word_at}
use Rattle.station_answer.specs.Answer.{after}
use Rattle.cut_list.specs.Record.{new_list}
use Rattle.cut_list.specs.Change.{Turn}
use Rattle.cut_list.specs.Find.{NearestStamp, StampsWithin, ClipOfStamp}
use Rattle.cut_list_station.specs.Words.{list_words, list_of}
use Rattle.timestamp.specs.declared.Timestamp.{Timestamp}

-- a new list of this minimum distance
pub record NewContract (minimum : ℕ) (s' : List ℕ) : Type 0 where
  -- it writes the words of the new list
  pub list : s' ≡ list_words (new_list minimum)
  -- these words hold that list
  pub read_back : list_of s' ≡ new_list minimum

-- an operation that may change a list, by what its definition leaves
pub record ChangeContract (t : Turn) (r : ℕ) (s s' : List ℕ) (m' : List ℤ) : Type 0 where
  -- it returns the number that the definition gives
  pub number : r ≡ t.number
  -- an accepted call writes the words of the list after it, and a refused one leaves the words as they were
  pub list : s' ≡ after r (list_words t.after.list) s
  -- accepted or refused, the words hold the list that the definition gives
  pub read_back : list_of s' ≡ t.after.list
  -- every place of the memory is as the definition gives it; refused, as it was
  pub memory : m' ≡ t.after.memory

-- the two words of the nearest stamp: whether there is one, and the stamp in two's complement or 0
abbrev pub nearest_words : Option Timestamp → List ℕ
nearest_words n = stamp_tag n ∷ stamp_word n ∷ []

-- the nearest stamp, or none, that two words are read as
abbrev pub nearest_read : List ℕ → Option Timestamp
nearest_read a = stamp_of (word_at a 0) (word_at a 1)

-- the nearest stamp; a reader is lent record and memory for reading alone, so that it leaves both as they were
pub record NearestContract (x : NearestStamp) (r : ℕ) (a a' : List ℕ) : Type 0 where
  -- it returns the number that the definition gives
  pub number : r ≡ x.number
  -- an accepted call writes the words of the nearest stamp, and a refused one leaves the answer as it was
  pub answer : a' ≡ after r (nearest_words x.nearest) a
  -- the answer of an accepted call is read as the stamp, or none, that the definition gives
  pub read_back : r ≡ 0 → nearest_read a' ≡ x.nearest

-- the stamps within a span
pub record SpanContract (x : StampsWithin) (r : ℕ) (a a' : List ℕ) : Type 0 where
  -- it returns the number that the definition gives
  pub number : r ≡ x.number
  -- an accepted call writes the place of the first stamp and how many there are, and a refused one leaves the answer as it was
  pub answer : a' ≡ after r (x.first ∷ x.count ∷ []) a

-- the clip of a stamp
pub record ClipContract (x : ClipOfStamp) (r : ℕ) (a a' : List ℕ) : Type 0 where
  -- it returns the number that the definition gives
  pub number : r ≡ x.number
  -- an accepted call writes the clip, and a refused one leaves the answer as it was
  pub answer : a' ≡ after r (x.clip ∷ []) a
