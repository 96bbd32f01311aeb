-- The largest of g lo, .., g (hi - 1) is one of these, where there is one.
use Rattle.laws.specs.Lists.{max_from, max_in}
use mathlib.Core.Path.{◌≡◌}
use Prim.Native.Nat.{ℕ, zero, suc, ◌+◌, ◌-◌, ◌≤◌, ◌<◌, max}
use native.Mathlib.Nat.{not-suc-le-zero}
use native.Mathlib.Decide.{dec_le}
use native.Mathlib.Omega.{arith}

from_at : (g : ℕ → ℕ) (lo n : ℕ) → 0 < n → (j : ℕ) × ((j < n) × (g (lo + j) ≡ max_from g lo n))
unfolding max_from
from_at g lo zero h = absurd (not-suc-le-zero h)
from_at g lo (suc zero) h = (0, (omega arith, omega arith))
from_at g lo (suc (suc n)) h = go (dec_le (max_from g lo (suc n)) (g (lo + suc n))) (from_at g lo (suc n) (omega arith))
  where
    go : Dec (max_from g lo (suc n) ≤ g (lo + suc n)) → (j : ℕ) × ((j < suc n) × (g (lo + j) ≡ max_from g lo (suc n)))
        → (j : ℕ) × ((j < suc (suc n)) × (g (lo + j) ≡ max (max_from g lo (suc n)) (g (lo + suc n))))
    go (yes b) ih = (suc n, (omega arith, omega arith))
    go (no b) ih = (ih.0, (omega (arith, ih.1.0), omega (arith, b, ih.1.1)))

-- a place where the largest stands
pub record MaxAt (lo hi : ℕ) (g : ℕ → ℕ) : Type 0 where
  pub place : ℕ
  pub low : lo ≤ place
  pub high : place < hi
  pub largest : g place ≡ max_in lo hi g

pub max-at : (lo hi : ℕ) (g : ℕ → ℕ) → lo < hi → MaxAt lo hi g
unfolding max_in
max-at lo hi g h =
    let f = from_at g lo (hi - lo) (omega arith) in
    record { place = lo + f.0; low = omega arith; high = omega (arith, f.1.0); largest = f.1.1 }
