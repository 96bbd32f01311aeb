-- How calls divide into stretches, computed from the definition. Assumes nothing.
use Prim.Native.Nat.{ℕ}
use mathlib.Core.Path.{◌≡◌, refl}
use mathlib.Core.Bool.{false}
use mathlib.Core.List.{List, [], ◌∷◌, map}
use lib.IntN.{pos}
use Rattle.filter.specs.Calls.{refused, frame, clear, Answered, ◌brought◌}
use Rattle.filter.specs.Claim.{Shot, Stretch, stretches}

-- a frame call that brings n
abbrev sized : (width height n : ℕ) → Answered ℕ
sized w h n = frame w h (record { stamp = record { micros = pos 0 }; above = false }) brought n

abbrev parts : List (Stretch ℕ) → List (List ℕ)
parts ts = map (λ (t : Stretch ℕ). t.first.answer ∷ map (λ (x : Shot ℕ). x.answer) t.scored) ts

-- a refused call ends no stretch; another width or height does, and so does a clear, also between frames of one size
divided : parts (stretches ((clear brought 0) ∷ sized 2 2 1 ∷ (refused brought 2) ∷ sized 2 2 3 ∷ sized 2 3 4 ∷ sized 3 3 5 ∷ (clear brought 6) ∷ (refused brought 7) ∷ (clear brought 8) ∷ sized 3 3 9 ∷ sized 3 3 10 ∷ []))
    ≡ (1 ∷ 3 ∷ []) ∷ (4 ∷ []) ∷ (5 ∷ []) ∷ (9 ∷ 10 ∷ []) ∷ []
divided = refl
