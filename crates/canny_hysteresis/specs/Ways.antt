-- The way of a sweep over listed places, as contracts of private functions name it.
use Rattle.std.specs.Prelude.{List, [], ◌∷◌, ℕ, ◌+◌, ◌-◌, fold, reverse}
use Rattle.canny_hysteresis.specs.declared.Way.{Way}
use Rattle.canny_hysteresis.specs.declared.Way.TheVariants.{Forward, Backward}
use Rattle.canny_hysteresis.specs.Sweeps.{visit}

-- the four places that it looks at beside place i, in a plane of w columns
abbrev pub beside : Way → ℕ → ℕ → List ℕ
beside Forward w i = (i - w - 1) ∷ (i - w) ∷ (i - w + 1) ∷ (i - 1) ∷ []
beside Backward w i = (i + w + 1) ∷ (i + w) ∷ (i + w - 1) ∷ (i + 1) ∷ []

-- of n places the one that it visits k-th, counted from 0
abbrev pub order : Way → ℕ → ℕ → ℕ
order Forward n k = k
order Backward n k = n - 1 - k

-- the places as it visits them
abbrev pub in_order : Way → List ℕ → List ℕ
in_order Forward ps = ps
in_order Backward ps = reverse ps

-- s with place i visited
abbrev pub visit_at : Way → ℕ → List ℕ → ℕ → List ℕ
visit_at way w s i = visit i (beside way w i) s

-- s with all the places visited
abbrev pub swept : Way → ℕ → List ℕ → List ℕ → List ℕ
swept way w ps s = fold (visit_at way w) s (in_order way ps)
