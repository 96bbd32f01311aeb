-- Of rows that are not refused just one has each median, and its threshold is the median's.
use Rattle.std.proofs.Common.{◌≡◌, refl, arith, Bool, true, false, cond, ◌||◌, List, [], ◌∷◌, ℕ, zero, suc, ◌+◌, ◌≤◌, ◌<◌, ltb, eqb, length, get_or}
use Rattle.std.proofs.lemmas.Bool.Decides.{nat_tests}
use native.Mathlib.Decide.{ℕ_discrete}
use Rattle.refusal.specs.Refusal.{first_that}
use Rattle.laws.proofs.Bools.{or-false}
use Rattle.light_plan.specs.declared.Row.{Row}
use Rattle.light_plan.specs.Rows.{has, rows_with, any_below, any_reversed, any_median, rows_refusal, threshold_at}

-- what holds of no number below n
none_below : (n : ℕ) (p : ℕ → Bool) → any_below n p ≡ false → (m : ℕ) → m < n → p m ≡ false
unfolding any_below
none_below zero p e m h = absurd (omega arith)
none_below (suc n) p e m h = go (or-false (p n) (any_below n p) e) (λ q k. none_below n p q m k) (ℕ_discrete m n)
  where
    go : (p n ≡ false) × (any_below n p ≡ false) → (any_below n p ≡ false → m < n → p m ≡ false) → Dec (m ≡ n) → p m ≡ false
    go parts below (yes q) = rw q parts.0
    go parts below (no q) = below parts.1 (omega (arith, q))

-- the conditions of 20, 21 and 22, where none of them is the refusal
none_holds : (none bad twice missing : Bool) → cond none 0 (first_that ((bad, 20) ∷ ((twice, 21) ∷ ((missing, 22) ∷ [])))) ≡ 0
    → none ≡ false → (bad ≡ false) × (twice ≡ false) × (missing ≡ false)
none_holds true bad twice missing e n = cc
none_holds false true twice missing e n = absurd (omega arith)
none_holds false false true missing e n = absurd (omega arith)
none_holds false false false true e n = absurd (omega arith)
none_holds false false false false e n = (refl, refl, refl)

-- so many rows that are a plan and are not refused: at most sixteen, none reversed, and each median has just one
pub record Accepted (count : ℕ) (rows : List Row) : Type 0 where
  pub few : count ≤ 16
  pub sound : any_reversed rows ≡ false
  pub one : (m : ℕ) → m ≤ 255 → rows_with rows m ≡ 1

pub accepted : (count : ℕ) (rows : List Row) → rows_refusal count rows ≡ 0 → (count ≡ 0 → ⊥) → Accepted count rows
unfolding rows_refusal
accepted count rows e given =
    let with = rows_with rows in
    let bad = ltb 16 count || any_reversed rows in
    let all =
    none_holds (eqb count 0) bad (any_median (λ m. ltb 1 (with m))) (any_median (λ m. eqb (with m) 0)) e (grind (arith, nat_tests)) in
    let shape = or-false (ltb 16 count) (any_reversed rows) all.0 in
    record {
      few = grind (arith, nat_tests);
      sound = shape.1;
      one = λ m h.
          let once = none_below 256 (λ m. ltb 1 (with m)) all.1 m (omega arith) in
          let some = none_below 256 (λ m. eqb (with m) 0) all.2 m (omega arith) in
          grind (arith, nat_tests);
    }

-- a row that has a median is one of those with it
one_at_least : (rows : List Row) (m i : ℕ) (d : Row) → i < length rows → has m (get_or rows i d) ≡ true → 1 ≤ rows_with rows m
unfolding rows_with
one_at_least [] m i d h e = absurd (omega arith)
one_at_least (r ∷ rows) m zero d h e = rw e (omega arith)
one_at_least (r ∷ rows) m (suc i) d h e = omega (arith, one_at_least rows m i d (omega arith) e)

-- the threshold of a median that just one row has is that row's, wherever it stands
pub threshold_unique : (rows : List Row) (m i : ℕ) (d : Row) → rows_with rows m ≡ 1 → i < length rows
    → has m (get_or rows i d) ≡ true → threshold_at rows m ≡ (get_or rows i d).threshold
unfolding rows_with threshold_at
threshold_unique [] m i d one h e = absurd (omega arith)
threshold_unique (r ∷ rows) m zero d one h e = rw e refl
threshold_unique (r ∷ rows) m (suc i) d one h e =
    go (has m r) one (one_at_least rows m i d (omega arith) e) (λ k. threshold_unique rows m i d k (omega arith) e)
  where
    go : (t : Bool) → cond t 1 0 + rows_with rows m ≡ 1 → 1 ≤ rows_with rows m
        → (rows_with rows m ≡ 1 → threshold_at rows m ≡ (get_or rows i d).threshold)
        → cond t r.threshold (threshold_at rows m) ≡ (get_or rows i d).threshold
    go true k some below = absurd (omega arith)
    go false k some below = below (omega arith)
