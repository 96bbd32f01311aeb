-- Operations on one list, each handed the record and the memory that the last one left (RULES 17.11).
use Rattle.std.specs.Prelude.{ℕ, Bool, false, cond, not, ◌&&◌, ◌||◌, List, [], ◌∷◌, eqb, ℤ}
use Rattle.cut_list.specs.Record.{Held}
use Rattle.cut_list.specs.Change.{Turn, same, added, removed, emptied}
use Rattle.cut_list.specs.Find.{nearest_in, span_in, clip_in}

-- an operation on a list
pub data Operation : Type 0 where
  add : (t : ℤ) → Operation
  remove : (t : ℤ) → Operation
  empty : Operation
  nearest : (t : ℤ) → Operation
  span : (a b : ℤ) → Operation
  clip : (t : ℤ) → Operation

-- the number that an operation is answered, and the list after it; a reader leaves the list as it was
abbrev pub operated : Held → Operation → Turn
operated h (add t) = added h t
operated h (remove t) = removed h t
operated h empty = emptied h
operated h (nearest t) = record { number = (nearest_in h t).number; after = h }
operated h (span a b) = record { number = (span_in h a b).number; after = h }
operated h (clip t) = record { number = (clip_in h t).number; after = h }

-- an operation with the number that it was answered
pub record Operated : Type 0 where
  pub operation : Operation
  pub number : ℕ

-- each operation gets the record and the memory that the last one left
abbrev pub list_run : Held → List Operation → List Operated
list_run h [] = []
list_run h (o ∷ os) = record { operation = o; number = (operated h o).number } ∷ list_run (operated h o).after os

-- the list after all of them
abbrev pub list_after : Held → List Operation → Held
list_after h [] = h
list_after h (o ∷ os) = list_after (operated h o).after os

-- ---- the stamps added and neither removed nor emptied out since, said of the operations and their numbers alone

-- whether a stamp is among those after an accepted operation, by whether it was before: adding it puts it in, removing it or emptying the list
-- takes it out, and nothing else touches it
abbrev pub held_after : ℤ → (was : Bool) → Operation → Bool
held_after t was (add s) = same t s || was
held_after t was (remove s) = not (same t s) && was
held_after t was empty = false
held_after t was (nearest s) = was
held_after t was (span a b) = was
held_after t was (clip s) = was

-- whether a stamp was added, and neither removed nor emptied out since, in a list of operations; a refused operation counts for nothing
abbrev pub added_since : ℤ → (was : Bool) → List Operated → Bool
added_since t was [] = was
added_since t was (y ∷ ys) = added_since t (cond (eqb y.number 0) (held_after t was y.operation) was) ys
