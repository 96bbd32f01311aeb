-- Numbers read digit by digit.
use mathlib.Core.Path.{◌≡◌, refl, ◌∙◌}
use mathlib.Core.Bool.{Bool, true, false, cond, ◌&&◌}
use mathlib.Core.List.{List, [], ◌∷◌}
use Prim.Native.Nat.{ℕ, zero, suc, ◌+◌, ◌-◌, ◌*◌, ◌<◌, ◌≤◌}
use native.Mathlib.Nat.{le_refl, le_trans}
use native.Mathlib.Numerals.{add-one}
use native.Mathlib.Omega.{arith}
use borrow.Author.Tests.{lt-leb, le-leb, leb-true, leb-false}
use lib.Dec.{eqb, leb}
use lib.Pointwise.{pointwise}
use lib.IntN.{ℤ, pos, neg_ℤ, ◌+ℤ◌, ◌-ℤ◌}
use lib.ListN.{length, get_or, take, drop, drop_of_length-le}
use lib.Seq.{drop-cons}
use mir.Syntax.{w64}
use mir.Val.{SFits, to_z, of_z}
use mir.ValLaws.{to_z-of_z}
use Rattle.std.proofs.Common.{Option, Some, None, lit<, lit≤, zero-add}
use Rattle.std.proofs.lemmas.Option.{cond_some}
use Rattle.std.proofs.lemmas.Int.{ints}
use Rattle.timestamp.specs.declared.Timestamp.{Timestamp}
use Rattle.decimal.specs.Reading.{is_digit, all_digits, is_number, number_from, number, is_up_to, number_if, number_read, is_stamp, stamp_of, stamp_read}

-- a number only grows by more digits
pub from_up : (n : ℕ) (bs : List ℕ) → n ≤ number_from n bs
unfolding number_from
from_up n [] = le_refl n
from_up n (b ∷ bs) = le_trans (omega arith) (from_up (10 * n + (b - 48)) bs)

-- what is known after i digits of a text: the value so far, and what is left to read
pub record Read (most : ℕ) (part : List ℕ) (value i : ℕ) : Type 0 where
  pub within : i ≤ length part
  pub small : value ≤ most
  pub same : number part ≡ number_from value (drop i part)
  pub digits : all_digits part ≡ all_digits (drop i part)

pub read_none : (most : ℕ) (part : List ℕ) → Read most part 0 0
read_none most part = record { within = omega arith; small = omega arith; same = refl; digits = refl }

-- the test of the next digit
abbrev good : ℕ → ℕ → ℕ → Bool
good most value b = is_digit b && leb (10 * value + (b - 48)) most

-- a text that is not empty is a number where it is digits
pub some_number : (part : List ℕ) → 0 < length part → is_number part ≡ all_digits part
unfolding is_number
some_number [] h = absurd (omega arith)
some_number (b ∷ bs) h = refl

-- no digit, or a number past most, ends the reading
stopped : (digit rest : Bool) (n v most : ℕ) → v ≤ n → (digit && leb v most) ≡ false → ((digit && rest) && leb n most) ≡ false
stopped true true n v most up h = let past : most < v = omega (arith, leb-false) in lt-leb n most (omega arith)
stopped true false n v most up h = refl
stopped false rest n v most up h = refl

both : (digit fits : Bool) → (digit && fits) ≡ true → (digit ≡ true) × (fits ≡ true)
both true true h = (refl, refl)
both true false h = (refl, h)
both false fits h = (h, (cc))

cond-none : {A : Type 0} (is : Bool) (x : A) → cond is (Some x) None ≡ None → is ≡ false
cond-none true x e = cc
cond-none false x e = refl

module _ (most : ℕ) (part : List ℕ) (value i : ℕ) (R : Read most part value i) (h : i < length part) where
  abbrev digit : ℕ
  digit = get_or part i 0

  next-number : number part ≡ number_from (10 * value + (digit - 48)) (drop (i + 1) part)
  unfolding number_from
  next-number = rw (add-one i) (R.same ∙ rw (drop-cons part i 0 h))

  next-digits : all_digits part ≡ (is_digit digit && all_digits (drop (i + 1) part))
  unfolding all_digits
  next-digits = rw (add-one i) (R.digits ∙ rw (drop-cons part i 0 h))

  -- what `with_digit` answers: the value with one more digit, or none
  abbrev answer : Option ℕ
  answer = number_if (good most value digit) (10 * value + (digit - 48))

  pub read_more : (v : ℕ) → answer ≡ Some v → Read most part v (i + 1)
  read_more v e =
      let s = cond_some (good most value digit) (10 * value + (digit - 48)) v e in
      let t = both (is_digit digit) (leb (10 * value + (digit - 48)) most) s.0 in
      rw (← s.1) (record { within = omega arith; small = leb-true _ _ t.1; same = next-number; digits = next-digits ∙ rw t.0 refl })

  pub read-stops : answer ≡ None → None ≡ number_read most part
  unfolding number_read is_up_to
  read-stops e =
      let up : 10 * value + (digit - 48) ≤ number part = rw next-number (from_up _ (drop (i + 1) part)) in
      let g = cond-none (good most value digit) (10 * value + (digit - 48)) e in
      let no : (is_number part && leb (number part) most) ≡ false =
      rw (some_number part (omega arith), next-digits) (stopped (is_digit digit) (all_digits (drop (i + 1) part)) (number part) (10 * value + (digit - 48)) most up g) in
      rw no

-- after the last digit
pub read_all : (most : ℕ) (part : List ℕ) (value i : ℕ) → Read most part value i → 0 < length part → length part ≤ i → Some value ≡ number_read most part
unfolding number_read is_up_to number_from all_digits
read_all most part value i R some h =
    let none : drop i part ≡ [] = drop_of_length-le part h in
    let n : number part ≡ value = R.same ∙ rw none in
    let d : all_digits part ≡ true = R.digits ∙ rw none in
    rw (some_number part some, d, n, le-leb value most R.small)

-- an empty text is no number
pub read-empty : (most : ℕ) (part : List ℕ) → length part ≡ 0 → None ≡ number_read most part
unfolding number_read is_up_to is_number
read-empty most [] e = refl
read-empty most (b ∷ bs) e = absurd (omega arith)

-- a number that was read, and none
pub number-some : (most n : ℕ) (part : List ℕ) → number_read most part ≡ Some n → (is_up_to most part ≡ true) × (number part ≡ n)
unfolding number_read
number-some most n part e = cond_some (is_up_to most part) (number part) n e

pub number_none : (most : ℕ) (part : List ℕ) → number_read most part ≡ None → is_up_to most part ≡ false
unfolding number_read
number_none most part e = cond-none (is_up_to most part) (number part) e

pub up_to : (most : ℕ) (part : List ℕ) → is_up_to most part ≡ true → number part ≤ most
unfolding is_up_to
up_to most part is = leb-true (number part) most (both (is_number part) (leb (number part) most) is).1

-- what is read is within most
pub number-within : (most n : ℕ) (part : List ℕ) → number_read most part ≡ Some n → n ≤ most
number-within most n part e = let s = number-some most n part e in rw (← s.1) (up_to most part s.0)

-- a number that was read within a greater limit
limited : (low most n : ℕ) (part : List ℕ) → number_read most part ≡ Some n → is_up_to low part ≡ leb n low
unfolding is_up_to
limited low most n part e =
    let s = number-some most n part e in
    rw ((both (is_number part) (leb (number part) most) s.0).0, s.1)

limited_none : (low most : ℕ) (part : List ℕ) → low ≤ most → number_read most part ≡ None → is_up_to low part ≡ false
unfolding is_up_to
limited_none low most part h e = by-test (is_number part) (number_none most part e)
  where
    by-test : (is : Bool) → (is && leb (number part) most) ≡ false → (is && leb (number part) low) ≡ false
    by-test true t = let more = leb-false (number part) most t in lt-leb (number part) low (omega arith)
    by-test false t = refl

-- A signed number of 64 bits: 0 less n, and 0 and n.
below : (n : ℕ) → pos 0 -ℤ pos n ≡ neg_ℤ (pos n)
below n = omega (arith, ints)

below-fits : (n : ℕ) → n ≤ 9223372036854775808 → SFits w64 (pos 0 -ℤ pos n)
below-fits n h = rw (below n) (by-size n h)
  where
    by-size : (n : ℕ) → n ≤ 9223372036854775808 → SFits w64 (neg_ℤ (pos n))
    by-size zero h = record { sfits = lit< tt }
    by-size (suc n) h = record { sfits = omega arith }

below-small : (n : ℕ) → SFits w64 (pos 0 -ℤ pos n) → n ≤ 9223372036854775808
below-small n f = by-size n (rw (below n) at f)
  where
    by-size : (n : ℕ) → SFits w64 (neg_ℤ (pos n)) → n ≤ 9223372036854775808
    by-size zero f = omega arith
    by-size (suc n) f = let h : n < 9223372036854775808 = f.sfits in omega arith

past : (n most : ℕ) → (n ≤ most → ⊥) → leb n most ≡ false
past n most more = by-test (leb n most) refl
  where
    by-test : (is : Bool) → leb n most ≡ is → is ≡ false
    by-test true e = absurd (more (leb-true n most e))
    by-test false e = refl

-- a stamp that was read, and none
pub stamp-some : (part : List ℕ) (t : Timestamp) → stamp_read part ≡ Some t → (is_stamp part ≡ true) × (record { micros = stamp_of part } ≡ t)
unfolding stamp_read
stamp-some part t e = cond_some (is_stamp part) (record { micros = stamp_of part }) t e

pub stamp_none : (part : List ℕ) → stamp_read part ≡ None → is_stamp part ≡ false
unfolding stamp_read
stamp_none part e = cond-none (is_stamp part) (record { micros = stamp_of part }) e

-- a text that starts with a minus, as std tests it
abbrev pub starts : List ℕ → Bool
starts part = pointwise eqb (take 1 part) (45 ∷ [])

pub stamp-minus : (part : List ℕ) → starts part ≡ true
    → stamp_read part ≡ cond (is_up_to 9223372036854775808 (drop 1 part)) (Some (record { micros = neg_ℤ (pos (number (drop 1 part))) })) None
unfolding stamp_read is_stamp stamp_of
stamp-minus [] s = cc
stamp-minus (b ∷ bs) s = let first : eqb b 45 ≡ true = (both (eqb b 45) true s).0 in rw first refl

pub stamp-plus : (part : List ℕ) → starts part ≡ false → stamp_read part ≡ cond (is_up_to 9223372036854775807 part) (Some (record { micros = pos (number part) })) None
unfolding stamp_read is_stamp stamp_of is_up_to is_number
stamp-plus [] s = refl
stamp-plus (b ∷ bs) s = let first : eqb b 45 ≡ false = by-test (eqb b 45) s in rw first refl
  where
    by-test : (is : Bool) → (is && true) ≡ false → is ≡ false
    by-test true t = t
    by-test false t = t

module _ (part digits : List ℕ) (s : starts part ≡ true) (rest : digits ≡ drop 1 part) where
  pub minus_none : number_read 18446744073709551615 digits ≡ None → None ≡ stamp_read part
  minus_none e = rw (stamp-minus part s, limited_none 9223372036854775808 _ _ (lit≤ tt) (rw rest at e))

  module _ (n : ℕ) (e : number_read 18446744073709551615 digits ≡ Some n) where
    pub minus-far : (SFits w64 (pos 0 -ℤ pos n) → ⊥) → None ≡ stamp_read part
    minus-far far =
        rw (stamp-minus part s, limited 9223372036854775808 _ n _ (rw rest at e), past n 9223372036854775808 (λ h. far (below-fits n h)))

    pub minus_some : (z : ℤ) → SFits w64 (pos 0 -ℤ pos n) × (z ≡ pos 0 -ℤ pos n) → Some (record { micros = to_z w64 (of_z w64 z) }) ≡ stamp_read part
    minus_some z (fits, same) =
        let value : to_z w64 (of_z w64 z) ≡ neg_ℤ (pos n) = rw same (to_z-of_z w64 (pos 0 -ℤ pos n) fits ∙ below n) in
        let known = number-some _ n _ (rw rest at e) in
        rw (stamp-minus part s, limited 9223372036854775808 _ n _ (rw rest at e), le-leb n 9223372036854775808 (below-small n fits), known.1, value)

module _ (part : List ℕ) (s : starts part ≡ false) where
  pub plus_none : number_read 18446744073709551615 part ≡ None → None ≡ stamp_read part
  plus_none e = rw (stamp-plus part s, limited_none 9223372036854775807 _ _ (lit≤ tt) e)

  module _ (n : ℕ) (e : number_read 18446744073709551615 part ≡ Some n) where
    pub plus-far : (SFits w64 (pos 0 +ℤ pos n) → ⊥) → None ≡ stamp_read part
    plus-far far = rw (stamp-plus part s, limited 9223372036854775807 _ n _ e, past n 9223372036854775807 (λ h. far (record { sfits = omega arith })))

    pub plus_some : (z : ℤ) → SFits w64 (pos 0 +ℤ pos n) × (z ≡ pos 0 +ℤ pos n) → Some (record { micros = to_z w64 (of_z w64 z) }) ≡ stamp_read part
    plus_some z (fits, same) =
        let f : SFits w64 (pos n) = rw zero-add at fits in
        let h : n < 9223372036854775808 = f.sfits in
        let value : to_z w64 (of_z w64 z) ≡ pos n = rw (same, zero-add) (to_z-of_z w64 (pos n) f) in
        let known = number-some _ n _ e in
        rw (stamp-plus part s, limited 9223372036854775807 _ n _ e, le-leb n 9223372036854775807 (omega arith), known.1, value)
