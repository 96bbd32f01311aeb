-- Counting rows at each median that they have.
use Rattle.std.proofs.Common.{◌≡◌, ap, ◌∙◌, arith, Bool, true, false, cond, List, ℕ, ◌+◌, ◌-◌, ◌≤◌, ◌<◌, length, get_or, take, drop, replicate}
use Rattle.std.proofs.lemmas.List.{get_or-replicate, drop_all}
use Rattle.std.proofs.lemmas.Bool.Decides.{nat_tests}
use native.Mathlib.Decide.{dec_lt}
use borrow.Rule.Slice.PartMut.{put_mid}
use Rattle.laws.proofs.Parts.{get_d_part, put-before, put_in, put-after}
use Rattle.light_plan.specs.declared.Plan.{Plan}
use Rattle.light_plan.specs.declared.Row.{Row}
use Rattle.light_plan.specs.Rows.{has, rows_with}
use Rattle.light_plan.specs.Plan.{row_at, rows_of}
use Rattle.light_plan.proofs.Held.{with_from}

-- the places from a row's first median to its last have one more, and so has each median of the row
pub row_counted : (r : Row) (old part : List ℕ) (a k : ℕ) → a ≡ r.from → r.from ≤ r.to → r.to < 256 → k ≡ r.to + 1 - r.from
    → length old ≡ 256 → length part ≡ k
    → ((j : ℕ) → j < k → get_or part j 0 ≡ get_or (take k (drop a old)) j 0 + 1)
    → (m : ℕ) → m < 256 → get_or (put_mid a k old part) m 0 ≡ get_or old m 0 + cond (has m r) 1 0
unfolding has
row_counted r old part a k is h e w size same one m small = go (dec_lt m a) (dec_lt r.to m)
  where
    inside : a + k ≤ length old
    inside = omega arith

    go : Dec (m < a) → Dec (r.to < m) → get_or (put_mid a k old part) m 0 ≡ get_or old m 0 + cond (has m r) 1 0
    go (yes b) t = let before = put-before a k old part 0 inside same m b in grind (arith, nat_tests)
    go (no b) (yes t) = let after = put-after a k old part 0 inside same m (omega (arith, b)) in grind (arith, nat_tests)
    go (no b) (no t) =
        let j : ℕ = m - a in
        let at : a + j ≡ m = omega (arith, b) in
        let within : j < k = omega (arith, t, b) in
        let here = put_in a k old part 0 inside same j within in
        let was = get_d_part a k old j 0 within in
        let more = one j within in
        let new : get_or (put_mid a k old part) m 0 ≡ get_or old m 0 + 1 = rw (← at) (here ∙ more ∙ ap (λ (n : ℕ). n + 1) was) in
        grind (arith, nat_tests)

-- the counts are those of the rows before i, which are no more than i
pub record Counted (p : Plan) (i : ℕ) (counts : List ℕ) : Type 0 where
  pub few : (m : ℕ) → m < 256 → get_or counts m 0 ≤ i
  pub all : (m : ℕ) → m < 256 → get_or counts m 0 + rows_with (drop i (rows_of p)) m ≡ rows_with (rows_of p) m

pub counted_none : (p : Plan) → Counted p 0 (replicate 256 0)
counted_none p =
    let zero_at : (m : ℕ) → m < 256 → get_or (replicate 256 0) m 0 ≡ 0 = λ m h. get_or-replicate {A = ℕ} 256 m 0 0 h in
    record { few = λ m h. omega (arith, zero_at m h); all = λ m h. omega (arith, zero_at m h) }

one_at_most : (b : Bool) → cond b 1 0 ≤ 1
one_at_most true = omega arith
one_at_most false = omega arith

pub counted_more : {p : Plan} {i : ℕ} {counts : List ℕ} (new : List ℕ) → Counted p i counts → i < length (rows_of p)
    → ((m : ℕ) → m < 256 → get_or new m 0 ≡ get_or counts m 0 + cond (has m (row_at p i)) 1 0) → Counted p (i + 1) new
counted_more {p} {i} {counts} new C h one = record {
  few = λ m k. omega (arith, C.few m k, one m k, one_at_most (has m (row_at p i)));
  all = λ m k. omega (arith, C.all m k, one m k, with_from p m i h);
}

pub counted_all : {p : Plan} {i : ℕ} {counts : List ℕ} → Counted p i counts → length (rows_of p) ≤ i
    → (m : ℕ) → m < 256 → get_or counts m 0 ≡ rows_with (rows_of p) m
unfolding rows_with
counted_all {p} {i} {counts} C h m k =
    let none = ap (λ (rows : List Row). rows_with rows m) (drop_all i (rows_of p) h) in
    omega (arith, C.all m k, none)
