-- How calls divide from clear to clear. Assumes nothing.
use Prim.Native.Nat.{ℕ}
use mathlib.Core.Path.{◌≡◌, refl, ap, ◌∙◌}
use mathlib.Core.List.{List, [], ◌∷◌, ◌++◌}
use Rattle.window.specs.Calls.{refused, unscored, scored, clear, Answered, ◌brought◌}
use Rattle.window.specs.Claim.{joined_part, from_clear_to_clear}

abbrev answers : {A : Type 0} → List (Answered A) → List A
answers [] = []
answers ((c brought a) ∷ xs) = a ∷ answers xs

abbrev all : {A : Type 0} → List (List A) → List A
all [] = []
all (p ∷ ps) = p ++ all ps

all-joined : {A : Type 0} (a : A) (ps : List (List A)) → all (joined_part a ps) ≡ a ∷ all ps
all-joined a [] = refl
all-joined a (p ∷ ps) = refl

-- the parts have all answers, in the order of the calls
pub no-others : {A : Type 0} (xs : List (Answered A)) → all (from_clear_to_clear xs) ≡ answers xs
no-others [] = refl
no-others ((refused brought a) ∷ xs) = all-joined a (from_clear_to_clear xs) ∙ ap (λ rest. a ∷ rest) (no-others xs)
no-others ((unscored brought a) ∷ xs) = all-joined a (from_clear_to_clear xs) ∙ ap (λ rest. a ∷ rest) (no-others xs)
no-others ((scored ts x brought a) ∷ xs) = all-joined a (from_clear_to_clear xs) ∙ ap (λ rest. a ∷ rest) (no-others xs)
no-others ((clear brought a) ∷ xs) = ap (λ rest. a ∷ rest) (no-others xs)

-- a clear ends a part, with its own answer; other calls do not
divided : from_clear_to_clear {A = ℕ} ((refused brought 1) ∷ (unscored brought 2) ∷ (clear brought 3) ∷ (clear brought 4) ∷ (unscored brought 5) ∷ []) ≡ (1 ∷ 2 ∷ 3 ∷ []) ∷ (4 ∷ []) ∷ (5 ∷ []) ∷ []
divided = refl
