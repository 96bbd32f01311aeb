-- The calls of any detector as the station makes them: its record in words, and the results of its calls, by what its definition gives.
use Rattle.std.specs.Prelude.{Bool, List, ℕ}
use Rattle.timestamp.specs.declared.Timestamp.{Timestamp}
use Rattle.stream.specs.declared.Stream.{Stream}
use Rattle.frame_call.specs.declared.PictureOptions.{PictureOptions}
use Rattle.frame_call.specs.Call.{PictureAnswer, Call, Outcome, outcome_of}
use Rattle.detector.specs.Answers.{Answer, Settled, without_score}
use Rattle.station_answer.specs.Promises.{Layout, Brought, Started}

-- the record of a detector in words, and its weights, which stand in its settings
abbrev pub layout : {D : Type 0} → (words_of : D → List ℕ) → (held_by : List ℕ → D) → (settings : D → PictureOptions) → Layout D
layout words_of held_by settings = record { words_of = words_of; held_by = held_by; weights_of = λ d. (settings d).weights }

-- the result of a call, by the outcome that the detector's definition gives
abbrev pub brought_by : {D : Type 0} → Outcome (Answer D) → Brought D
brought_by o =
    record {
      number = o.answer.number;
      detector = o.answer.detector;
      cut = o.answer.cut;
      score = o.answer.score;
      components = o.answer.components;
      sums = o.answer.sums;
      store = o.store;
    }

-- the result of a call of a detector, by its definition
abbrev pub brought : {D : Type 0}
    → (stream : D → Stream) → (settings : D → PictureOptions) → (bad : D → Bool) → (stepped : D → Timestamp → PictureAnswer → Answer D) → (cleared : D → Answer D)
    → D → Call → Brought D
brought stream settings bad stepped cleared d c = brought_by (outcome_of (stream d) (settings d) (bad d) (stepped d) (without_score d) (cleared d) c)

-- what a settings call returns, by what the detector's definition gives
abbrev pub started_by : {D : Type 0} → Settled D → Started D
started_by x = record { number = x.number; detector = x.detector }
