-- Two rounds of two sweeps (RULES 5.10, 5.11). The forward sweep goes down the rows, each from left to right, and turns a weak pixel into a
-- strong one beside a strong upper-left, upper, upper-right or left neighbour. The backward sweep goes up the rows, each from right to left,
-- and does the same beside a strong lower-right, lower, lower-left or right neighbour.
-- s is a plane of classes of w columns and h rows: 1 weak, 2 strong. A sweep visits the inner places: thinning keeps no others.
use Rattle.std.specs.Prelude.{Bool, false, cond, ◌&&◌, ◌||◌, List, [], ◌∷◌, map, ℕ, ◌+◌, ◌-◌, ◌*◌, eqb, get_or, set}
use Rattle.laws.specs.Steps.{steps}

-- the place of column x of row y
abbrev pub place : ℕ → ℕ → ℕ → ℕ
place w x y = y * w + x

-- the upper-left, upper, upper-right and left neighbours of column x of row y
abbrev pub upper : ℕ → ℕ → ℕ → List ℕ
upper w x y = place w (x - 1) (y - 1) ∷ place w x (y - 1) ∷ place w (x + 1) (y - 1) ∷ place w (x - 1) y ∷ []

-- the lower-right, lower, lower-left and right neighbours
abbrev pub lower : ℕ → ℕ → ℕ → List ℕ
lower w x y = place w (x + 1) (y + 1) ∷ place w x (y + 1) ∷ place w (x - 1) (y + 1) ∷ place w (x + 1) y ∷ []

-- one of the places is strong
unfoldable pub any_strong : List ℕ → List ℕ → Bool
any_strong s [] = false
any_strong s (p ∷ ps) = eqb (get_or s p 0) 2 || any_strong s ps

-- place i turns from weak into strong where one of the places beside it is strong
unfoldable pub visit : ℕ → List ℕ → List ℕ → List ℕ
visit i beside s = set s i (cond (eqb (get_or s i 0) 1 && any_strong s beside) 2 (get_or s i 0))

-- of n rows or columns the inner one that is visited i-th, counted from 0, going from the first inner one up
abbrev pub rising : ℕ → ℕ → ℕ
rising n i = i + 1

-- of n rows or columns the inner one that is visited i-th, counted from 0, going from the last inner one down
abbrev pub falling : ℕ → ℕ → ℕ
falling n i = n - 2 - i

-- s with the inner places of row y visited in order, each by the neighbours that `beside` gives
unfoldable pub sweep_row : (ℕ → ℕ → ℕ → List ℕ) → (ℕ → ℕ → ℕ) → ℕ → ℕ → List ℕ → List ℕ
sweep_row beside order w y s = steps (w - 2) (λ i. visit (place w (order w i) y) (beside w (order w i) y)) s

-- a sweep: all inner rows in order
unfoldable pub sweep : (ℕ → ℕ → ℕ → List ℕ) → (ℕ → ℕ → ℕ) → ℕ → ℕ → List ℕ → List ℕ
sweep beside order w h s = steps (h - 2) (λ j. sweep_row beside order w (order h j)) s

-- a forward and a backward sweep
unfoldable pub round : ℕ → ℕ → List ℕ → List ℕ
round w h s = sweep lower falling w h (sweep upper rising w h s)

-- strong becomes 255, anything else 0
abbrev pub whitened : ℕ → ℕ
whitened v = cond (eqb v 2) 255 0

-- the plane of strong pixels after two rounds: 255 at each, otherwise 0
unfoldable pub strong_pixels : ℕ → ℕ → List ℕ → List ℕ
strong_pixels w h s = map whitened (steps 2 (λ i. round w h) s)
