-- The largest of g lo, .., g (hi - 1). Every law goes by the two bounds `max-le` and `le-max`.
use Rattle.laws.specs.Lists.{max_from, max_in}
use mathlib.Core.Path.{◌≡◌}
use Prim.Native.Nat.{ℕ, zero, suc, ◌+◌, ◌-◌, ◌≤◌, ◌<◌, max}
use native.Mathlib.Nat.{le_antisymm, le_refl, not-suc-le-zero}
use native.Mathlib.Decide.{dec_lt}
use native.Mathlib.Omega.{arith}

from_le : (g : ℕ → ℕ) (lo n m : ℕ) → ((j : ℕ) → j < n → g (lo + j) ≤ m) → max_from g lo n ≤ m
unfolding max_from
from_le g lo zero m h = omega arith
from_le g lo (suc n) m h = omega (arith, from_le g lo n m (λ j b. h j (omega arith)), h n (omega arith))

le_from : (g : ℕ → ℕ) (lo n j : ℕ) → j < n → g (lo + j) ≤ max_from g lo n
unfolding max_from
le_from g lo zero j h = absurd (not-suc-le-zero h)
le_from g lo (suc n) j h = go (dec_lt j n) (λ b. le_from g lo n j b)
  where
    go : Dec (j < n) → (j < n → g (lo + j) ≤ max_from g lo n) → g (lo + j) ≤ max (max_from g lo n) (g (lo + n))
    go (yes b) ih = omega (arith, ih b)
    go (no b) ih = let e : j ≡ n = omega (arith, b) in rw e (omega arith)

pub max-le : (lo hi : ℕ) (g : ℕ → ℕ) (m : ℕ) → ((j : ℕ) → lo ≤ j → j < hi → g j ≤ m) → max_in lo hi g ≤ m
unfolding max_in
max-le lo hi g m h = from_le g lo (hi - lo) m (λ j b. h (lo + j) (omega arith) (omega arith))

pub le-max : (lo hi : ℕ) (g : ℕ → ℕ) (j : ℕ) → lo ≤ j → j < hi → g j ≤ max_in lo hi g
unfolding max_in
le-max lo hi g j a b = let e : j ≡ lo + (j - lo) = omega arith in rw e (le_from g lo (hi - lo) (j - lo) (omega arith))

pub max_none : (lo hi : ℕ) (g : ℕ → ℕ) → hi ≤ lo → max_in lo hi g ≡ 0
max_none lo hi g h = let z : max_in lo hi g ≤ 0 = max-le lo hi g 0 (λ j a b. absurd (omega arith)) in omega arith

pub max-split : (lo mid hi : ℕ) (g : ℕ → ℕ) → lo ≤ mid → mid ≤ hi → max_in lo hi g ≡ max (max_in lo mid g) (max_in mid hi g)
max-split lo mid hi g p q = le_antisymm up down
  where
    each : (j : ℕ) → lo ≤ j → j < hi → Dec (j < mid) → g j ≤ max (max_in lo mid g) (max_in mid hi g)
    each j a b (yes h) = omega (arith, le-max lo mid g j a h)
    each j a b (no h) = omega (arith, le-max mid hi g j (omega (arith, h)) b)

    up : max_in lo hi g ≤ max (max_in lo mid g) (max_in mid hi g)
    up = max-le lo hi g (max (max_in lo mid g) (max_in mid hi g)) (λ j a b. each j a b (dec_lt j mid))

    down : max (max_in lo mid g) (max_in mid hi g) ≤ max_in lo hi g
    down =
        let a : max_in lo mid g ≤ max_in lo hi g = max-le lo mid g (max_in lo hi g) (λ j a b. le-max lo hi g j a (omega arith)) in
        let b : max_in mid hi g ≤ max_in lo hi g = max-le mid hi g (max_in lo hi g) (λ j a b. le-max lo hi g j (omega arith) b) in
        omega arith

pub max-one : (i : ℕ) (g : ℕ → ℕ) → max_in i (i + 1) g ≡ g i
max-one i g =
    le_antisymm
    (max-le i (i + 1) g (g i) (λ j a b. let e : j ≡ i = omega arith in rw e (le_refl (g i))))
    (le-max i (i + 1) g i (omega arith) (omega arith))

-- one more at the end, and one more at the start
pub max-last : (lo i : ℕ) (g : ℕ → ℕ) → lo ≤ i → max_in lo (i + 1) g ≡ max (max_in lo i g) (g i)
max-last lo i g h = omega (arith, max-split lo i (i + 1) g h (omega arith), max-one i g)

pub max-first : (i hi : ℕ) (g : ℕ → ℕ) → i < hi → max_in i hi g ≡ max (max_in (i + 1) hi g) (g i)
max-first i hi g h = omega (arith, max-split i (i + 1) hi g (omega arith) (omega arith), max-one i g)

-- only the numbers within the bounds count
pub max-same : (lo hi : ℕ) (f g : ℕ → ℕ) → ((j : ℕ) → lo ≤ j → j < hi → f j ≡ g j) → max_in lo hi f ≡ max_in lo hi g
max-same lo hi f g h =
    le_antisymm
    (max-le lo hi f (max_in lo hi g) (λ j a b. omega (arith, h j a b, le-max lo hi g j a b)))
    (max-le lo hi g (max_in lo hi f) (λ j a b. omega (arith, h j a b, le-max lo hi f j a b)))
