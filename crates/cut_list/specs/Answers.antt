-- What the functions of src/ answer, as the definitions of `Change` and `Find` have it: 0 in front of the value of an accepted call, the number
-- of the refusal in front of the value that stands for a refused one.
use Rattle.std.specs.Prelude.{List, ℤ, ℕ, Option, None, Result, Ok, Err}
use Rattle.refusal.specs.Refusal.{number_of}
use Rattle.refusal.specs.declared.Refusal.{Refusal}
use Rattle.refusal.specs.declared.Refused.{Refused}
use Rattle.timestamp.specs.declared.Timestamp.{Timestamp}
use Rattle.cut_list.specs.declared.CutList.{CutList}
use Rattle.cut_list.specs.declared.StampsWithin as src
use Rattle.cut_list.specs.Change.{Turn, turned}
use Rattle.cut_list.specs.Find.{NearestStamp, StampsWithin, ClipOfStamp}

-- the number of a change
abbrev pub changed_number : Result CutList (Refused CutList) → ℕ
changed_number (Ok list) = 0
changed_number (Err refused) = number_of refused.refusal

-- the record that its caller goes on with: the new one, or the one that a refusal hands back
abbrev pub changed_list : Result CutList (Refused CutList) → CutList
changed_list (Ok list) = list
changed_list (Err refused) = refused.state

-- a change and the memory after it
abbrev pub change_of : Result CutList (Refused CutList) → List ℤ → Turn
change_of r memory = turned (changed_number r) (changed_list r) memory

-- the nearest stamp: none where the call is refused
abbrev pub nearest_answer : Result (Option Timestamp) Refusal → NearestStamp
nearest_answer (Ok stamp) = record { number = 0; nearest = stamp }
nearest_answer (Err why) = record { number = number_of why; nearest = None }

-- the stamps within a span: 0 and 0 where the call is refused
abbrev pub span_answer : Result src.StampsWithin Refusal → StampsWithin
span_answer (Ok within) = record { number = 0; first = within.first; count = within.count }
span_answer (Err why) = record { number = number_of why; first = 0; count = 0 }

-- the clip of a stamp: 0 where the call is refused
abbrev pub clip_answer : Result ℕ Refusal → ClipOfStamp
clip_answer (Ok clip) = record { number = 0; clip = clip }
clip_answer (Err why) = record { number = number_of why; clip = 0 }
