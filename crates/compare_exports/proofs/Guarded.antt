-- The answer's number, by the tests that the code makes.
use mathlib.Core.Path.{◌≡◌, sym}
use mathlib.Core.Bool.{Bool, true, false}
use Prim.Native.Nat.{ℕ, ◌<◌}
use native.Mathlib.Omega.{arith}
use lib.Dec.{eqb}
use borrow.Author.Tests.{eq-eqb, ne_eqb}
use Rattle.std.proofs.Common.{◌&&◌, ◌≢◌, ◌⊎◌, inl, inr}
use Rattle.compare_exports.specs.Guard.{number}

-- a frame that is refused
pub refused : {n r : ℕ} (fits : Bool) → r ≡ n → 0 < r → r ≡ number n fits
unfolding number
refused {n} {r} fits e h = rw (ne_eqb n 0 (λ z. omega arith)) e

-- a buffer of another length
pub misfit : {n : ℕ} {fits : Bool} → 0 ≡ n → fits ≡ false → 12 ≡ number n fits
unfolding number
misfit z f = rw (sym z, f)

pub done : {n : ℕ} {fits : Bool} → 0 ≡ n → fits ≡ true → 0 ≡ number n fits
unfolding number
done z f = rw (sym z, f)

-- one buffer, and three
pub misfit_one : {n a b : ℕ} → 0 ≡ n → a ≢ b → 12 ≡ number n (eqb a b)
misfit_one z h = misfit z (ne_eqb _ _ h)

pub done_one : {n a b : ℕ} → 0 ≡ n → a ≡ b → 0 ≡ number n (eqb a b)
done_one z h = done z (eq-eqb _ _ h)

pub done_three : {n a b c d : ℕ} → 0 ≡ n → a ≡ b → c ≡ b → d ≡ b → 0 ≡ number n (eqb a b && (eqb c b && eqb d b))
done_three z h i j = done z (simp (eq-eqb _ _ h, eq-eqb _ _ i, eq-eqb _ _ j))

pub misfit_three : {n a b c d : ℕ} → 0 ≡ n → (a ≢ b) ⊎ ((a ≡ b) × ((c ≢ b) ⊎ ((c ≡ b) × (d ≢ b)))) → 12 ≡ number n (eqb a b && (eqb c b && eqb d b))
misfit_three z (inl h) = misfit z (simp (ne_eqb _ _ h))
misfit_three z (inr (h, inl i)) = misfit z (simp (eq-eqb _ _ h, ne_eqb _ _ i))
misfit_three z (inr (h, inr (i, j))) = misfit z (simp (eq-eqb _ _ h, eq-eqb _ _ i, ne_eqb _ _ j))
