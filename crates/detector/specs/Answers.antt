-- What the calls of a detector return, as numbers and values (RULES 8.4, 10.1, 10.3): 0 for an accepted call, or the number of its refusal, with the
-- values that stand in an answer then. D is the type of the detector's states.
use Rattle.std.specs.Prelude.{ℕ, Float, Option, None, Result, Ok, Err}
use Rattle.timestamp.specs.declared.Timestamp.{Timestamp}
use Rattle.refusal.specs.declared.Refused.{Refused}
use Rattle.refusal.specs.Refusal.{number_of}
use Rattle.score.specs.declared.Components.{Components}
use Rattle.stream.specs.declared.Sums.{Sums}
use Rattle.stream.specs.Stream.{no_sums, components_shown}
use Rattle.detector.specs.declared.Step.{Step}

-- what a frame call or `clear` answers: a refusal's number or 0, the state, the cut or none, the score or none, the four components, which are 0.0
-- where there is no score, and the whole sums and the count that they come from, which are 0 there
pub record Answer (D : Type 0) : Type 0 where
  pub number : ℕ
  pub detector : D
  pub cut : Option Timestamp
  pub score : Option Float
  pub components : Components
  pub sums : Sums

-- an answer with this state, no cut, no score and no sums: that of a refused call, with the old state (RULES 10.3), and that of `clear`, with the
-- number 0
abbrev pub without_score : {D : Type 0} → D → ℕ → Answer D
without_score d n = record { number = n; detector = d; cut = None; score = None; components = components_shown None; sums = no_sums }

-- what the result of a frame call says
abbrev pub answer_in : {D : Type 0} → Result (Step D) (Refused D) → Answer D
answer_in (Ok s) = record { number = 0; detector = s.detector; cut = s.cut; score = s.score; components = s.components; sums = s.sums }
answer_in (Err r) = without_score r.state (number_of r.refusal)

-- what the result of `clear` says
abbrev pub cleared_in : {D : Type 0} → Result D (Refused D) → Answer D
cleared_in (Ok d) = without_score d 0
cleared_in (Err r) = without_score r.state (number_of r.refusal)

-- what a settings call returns: a refusal's number or 0, and a fresh state
pub record Settled (D : Type 0) : Type 0 where
  pub number : ℕ
  pub detector : D

-- what the result of a settings call says
abbrev pub settled_in : {D : Type 0} → Result D (Refused D) → Settled D
settled_in (Ok d) = record { number = 0; detector = d }
settled_in (Err r) = record { number = number_of r.refusal; detector = r.state }
