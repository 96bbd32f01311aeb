-- The calls of a list on one detector (RULES 14.5), each seen as one of the calls of `Calls.antt`. S is the type of the detector's states, C that
-- of its own calls.
use Rattle.std.specs.Prelude.{List, [], ◌∷◌}
use Rattle.window.specs.Calls.{WindowCall, Answered, ◌brought◌}

module _ {S C : Type 0} (next : S → C → S) (view : S → C → WindowCall) where
  -- each call gets the state that the last one returned; `view` says which call it is, at the state that it finds, and `answer` what it brings
  abbrev pub seen_by_window : {A : Type 0} → (answer : S → C → A) → S → List C → List (Answered A)
  seen_by_window answer s [] = []
  seen_by_window answer s (c ∷ cs) = (view s c brought answer s c) ∷ seen_by_window answer (next s c) cs
