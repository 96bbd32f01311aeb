-- Lists given by index, planes by column and row, and what is said of all elements.
use Rattle.std.specs.Prelude.{Bool, cond, List, [], ◌∷◌, ℕ, zero, suc, ◌+◌, ◌-◌, ◌*◌, ◌/◌, ◌%◌, max}

-- the list of n elements that has f i at each place i
unfoldable pub tabulate {ℓ} : {A : Type ℓ} → ℕ → (ℕ → A) → List A
tabulate zero f = []
tabulate (suc n) f = f zero ∷ tabulate n (λ i. f (suc i))

-- the plane of w columns and h rows that has f x y at column x of row y, row after row
abbrev pub plane {ℓ} : {A : Type ℓ} → ℕ → ℕ → (ℕ → ℕ → A) → List A
plane w h f = tabulate (w * h) (λ i. f (i % w) (i / w))

-- f 0 + f 1 + .. + f (n - 1)
unfoldable pub sum : ℕ → (ℕ → ℕ) → ℕ
sum zero f = 0
sum (suc n) f = sum n f + f n

-- the largest of the n numbers g lo, g (lo + 1), ..; 0 of none
unfoldable pub max_from : (ℕ → ℕ) → ℕ → ℕ → ℕ
max_from g lo zero = 0
max_from g lo (suc n) = max (max_from g lo n) (g (lo + n))

-- the largest g j with lo ≤ j and j < hi; 0 where there is no such j
unfoldable pub max_in : ℕ → ℕ → (ℕ → ℕ) → ℕ
max_in lo hi g = max_from g lo (hi - lo)

-- P holds of every element
abbrev pub All : {A : Type 0} → (A → Type 0) → List A → Type 0
All P [] = Unit {0}
All P (x ∷ xs) = P x × All P xs

-- the list without the elements of which `out` holds
abbrev pub leave_out : {A : Type 0} → (A → Bool) → List A → List A
leave_out out [] = []
leave_out out (x ∷ xs) = cond (out x) (leave_out out xs) (x ∷ leave_out out xs)
