-- What the station's calls promise, for either detector (RULES 15.3, 15.5, 15.6 and 15.10). `s` is the state's words at entry and `s'` at exit, `a`
-- and `a'` the answer's, `m` and `m'` the store, the scratch and the magnitudes, `r` the number that is returned.
use Rattle.std.specs.Prelude.{◌≡◌, List, ℕ, ◌<◌, length, Float, Option}
use Rattle.score.specs.declared.Components.{Components}
use Rattle.stream.specs.declared.Sums.{Sums}
use Rattle.stream.specs.Stream.{FromSums}
use Rattle.frame_call.specs.Call.{Memory}
use Rattle.station_answer.specs.Answer.{answer_words, ReadAs, score_in, components_in, sums_in, after}
use Rattle.timestamp.specs.declared.Timestamp.{Timestamp}

-- a detector's record `D` in words: the words of a record, the record that words hold, and the weights of a record
pub record Layout (D : Type 0) : Type 0 where
  pub words_of : D → List ℕ
  pub held_by : List ℕ → D
  pub weights_of : D → Components

-- the result of a call by its definition: the refusal's number or 0, the detector after it (refused: as it was), the cut or none, the score
-- or none, the components, the sums with the count, and the store after it (refused: as it was)
pub record Brought (D : Type 0) : Type 0 where
  pub number : ℕ
  pub detector : D
  pub cut : Option Timestamp
  pub score : Option Float
  pub components : Components
  pub sums : Sums
  pub store : List ℕ

-- a frame call
pub record FrameContract {D : Type 0} (l : Layout D) (b : Brought D) (r : ℕ) (s s' a a' : List ℕ) (m m' : Memory) : Type 0 where
  -- it returns the number that the definition gives
  pub number : r ≡ b.number
  -- an accepted call writes the words of the new detector, and a refused one leaves the state's words as they were
  pub state : s' ≡ after r (l.words_of b.detector) s
  -- accepted or refused, the words hold the detector that the definition gives
  pub read_back : l.held_by s' ≡ b.detector
  -- an accepted call writes the words of the answer, and a refused one leaves them as they were
  pub answer : a' ≡ after r (answer_words b.cut b.score b.components b.sums) a
  -- the answer of an accepted call is read as the cut, the score, the components and the sums that the definition gives
  pub answer_back : r ≡ 0 → ReadAs b.cut b.score b.components b.sums a'
  -- from its five whole numbers and the state's weights a station works out the components and the score of an accepted call again (RULES 15.10)
  pub recomputed : r ≡ 0 → FromSums (l.weights_of (l.held_by s)) (score_in a') (components_in a') (sums_in a')
  -- the store is the one that the definition gives
  pub store : m'.store ≡ b.store
  -- the contents of the scratch and the magnitudes after an accepted call are left open: only their lengths are promised
  pub scratch-length : length m'.scratch ≡ length m.scratch
  pub magnitudes-length : length m'.magnitudes ≡ length m.magnitudes
  -- a refused call changes no lent byte
  pub refused : 0 < r → m' ≡ m

-- `clear`, which is lent nothing but the state
pub record ClearContract {D : Type 0} (l : Layout D) (b : Brought D) (r : ℕ) (s s' : List ℕ) : Type 0 where
  -- it returns the number that the definition gives
  pub number : r ≡ b.number
  -- an accepted call writes the words of the new detector, and a refused one leaves the state's words as they were
  pub state : s' ≡ after r (l.words_of b.detector) s
  -- accepted or refused, the words hold the detector that the definition gives
  pub read_back : l.held_by s' ≡ b.detector

-- what a settings call returns: the refusal's number or 0, and a fresh detector, which has the defaults where the settings are refused
pub record Started (D : Type 0) : Type 0 where
  pub number : ℕ
  pub detector : D

-- a settings call, accepted or refused
pub record SettingsContract {D : Type 0} (l : Layout D) (x : Started D) (r : ℕ) (s' : List ℕ) : Type 0 where
  -- it returns the number that the definition gives
  pub number : r ≡ x.number
  -- it writes the words of the fresh detector
  pub state : s' ≡ l.words_of x.detector
  -- these words hold that detector
  pub read_back : l.held_by s' ≡ x.detector
