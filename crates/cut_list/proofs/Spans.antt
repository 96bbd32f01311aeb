-- The stamps within a span: how many they are needs no order, the place of the first does.
use Prim.Native.Nat.{ℕ, ◌+◌, ◌-◌, ◌≤◌, ◌<◌}
use native.Mathlib.Omega.{arith}
use mathlib.Core.Path.{◌≡◌, refl}
use mathlib.Core.Bool.{Bool, true, false, cond, ◌&&◌}
use mathlib.Core.List.{List, [], ◌∷◌}
use borrow.Author.Tests.{ne_eqb, eq-eqb}
use lib.IntN.{ℤ}
use lib.Signed.{le_z, lt_z}
use Rattle.laws.specs.Lists.{All}
use Rattle.laws.proofs.All.{all_map}
use Rattle.laws.proofs.Bools.{and-right-false}
use Rattle.laws.proofs.Whole.{whole, le-le_z, lt-le_z, lt-lt_z}
use Rattle.cut_list.specs.Record.{in_order}
use Rattle.cut_list.specs.Find.{within, how_many, first_place, span_start, clip_of}
use Rattle.cut_list.proofs.Order.{before, tail-ordered, rest-past, none-have, none_before, one-before}

-- one stamp's part in the three counts, for a span whose ends are in order
one : (a b x : ℤ) → le_z a b ≡ true → cond (lt_z x a) 1 0 + cond (within a b x) 1 0 ≡ cond (le_z x b) 1 0
one a b x ab = by (lt_z x a) refl (le_z x b) refl
  where
    by : (p : Bool) → lt_z x a ≡ p → (q : Bool) → le_z x b ≡ q → cond p 1 0 + cond (le_z a x && q) 1 0 ≡ cond q 1 0
    by true h true k = rw (lt-le_z a x (omega whole))
    by true h false k = absurd (omega whole)
    by false h q k = rw (le-le_z a x (omega whole)) (omega arith)

pub counts : (a b : ℤ) (xs : List ℤ) → le_z a b ≡ true → before a xs + how_many (within a b) xs ≡ clip_of b xs
unfolding how_many clip_of
counts a b [] ab = refl
counts a b (x ∷ xs) ab = omega (arith, one a b x ab, counts a b xs ab)

-- for one whose first end is the later
module _ (a b : ℤ) (ba : le_z a b ≡ false) where
  out : (x : ℤ) → within a b x ≡ false
  out x = by (le_z a x) refl
    where
      by : (p : Bool) → le_z a x ≡ p → (p && le_z x b) ≡ false
      by true h = lt-le_z x b (omega whole)
      by false h = refl

  all-out : (xs : List ℤ) → All (λ (x : ℤ). within a b x ≡ false) xs
  all-out [] = tt
  all-out (x ∷ xs) = (out x, all-out xs)

  fewer : (x : ℤ) → cond (le_z x b) 1 0 ≤ cond (lt_z x a) 1 0
  fewer x = by (le_z x b) refl
    where
      by : (p : Bool) → le_z x b ≡ p → cond p 1 0 ≤ cond (lt_z x a) 1 0
      by true h = rw (lt-lt_z x a (omega whole)) (omega arith)
      by false h = omega arith

  pub no_more : (xs : List ℤ) → clip_of b xs ≤ before a xs
  unfolding how_many clip_of
  no_more [] = omega arith
  no_more (x ∷ xs) = omega (arith, fewer x, no_more xs)

-- the first stamp within the span stands past those before it, if there is one
pub first-at : (d : ℕ) (a b : ℤ) (xs : List ℤ) → in_order d xs ≡ true → 0 < how_many (within a b) xs → first_place (within a b) xs ≡ before a xs
unfolding how_many first_place
first-at d a b [] o some = refl
first-at d a b (x ∷ xs) o some = by (lt_z x a) refl (first-at d a b xs (tail-ordered d x xs o)) some
  where
    past : lt_z x a ≡ false → (q : Bool) → le_z x b ≡ q → 0 < how_many (within a b) (x ∷ xs) → q ≡ true
    past h true k n = refl
    past h false k n =
        let none : All (λ (y : ℤ). within a b y ≡ false) xs =
        all_map (λ y p. let l = p.later in and-right-false (le_z a y) (le_z y b) (lt-le_z y b (omega whole))) xs (rest-past d x xs o) in
        let zero_in : how_many (within a b) (x ∷ xs) ≡ 0 = rw (k, and-right-false (le_z a x) false refl, none-have (within a b) xs none) in
        absurd (omega (arith, zero_in))

    by : (p : Bool) → lt_z x a ≡ p → (0 < how_many (within a b) xs → first_place (within a b) xs ≡ before a xs) → 0 < how_many (within a b) (x ∷ xs)
        → first_place (within a b) (x ∷ xs) ≡ before a (x ∷ xs)
    by true h ih n =
        let l : le_z a x ≡ false = lt-le_z a x (omega whole) in
        let g : 0 < 0 + how_many (within a b) xs = rw l at n in
        let m : 0 < how_many (within a b) xs = omega arith in
        rw (one-before a x xs h, l, ih m) (omega arith)
    by false h ih n = rw (none_before d a x xs o h, le-le_z a x (omega whole), past h (le_z x b) refl n)

-- both answers of a span, by the two counts
pub record Within (a b : ℤ) (xs : List ℤ) (first count : ℕ) : Type 0 where
  pub start : span_start a b xs ≡ first
  pub number : how_many (within a b) xs ≡ count

pub span-some : (d : ℕ) (a b : ℤ) (xs : List ℤ) → in_order d xs ≡ true → before a xs < clip_of b xs → Within a b xs (before a xs) (clip_of b xs - before a xs)
unfolding span_start
span-some d a b xs o lt = by (le_z a b) refl
  where
    by : (p : Bool) → le_z a b ≡ p → Within a b xs (before a xs) (clip_of b xs - before a xs)
    by true e =
        let c = counts a b xs e in
        let n : 0 < how_many (within a b) xs = omega (arith, c) in
        record {
          start = rw (ne_eqb (how_many (within a b) xs) 0 (λ z. absurd (omega (arith, z)))) (first-at d a b xs o n);
          number = omega (arith, c);
        }
    by false e = absurd (omega (arith, no_more a b e xs))

pub span_none : (a b : ℤ) (xs : List ℤ) → clip_of b xs ≤ before a xs → Within a b xs 0 0
unfolding span_start
span_none a b xs le = by (le_z a b) refl
  where
    none : how_many (within a b) xs ≡ 0 → Within a b xs 0 0
    none z = record { start = rw (eq-eqb (how_many (within a b) xs) 0 z); number = z }

    by : (p : Bool) → le_z a b ≡ p → Within a b xs 0 0
    by true e = none (omega (arith, counts a b xs e))
    by false e = none (none-have (within a b) xs (all-out a b e xs))
