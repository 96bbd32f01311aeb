-- What is written reads back as what it was: a number of 64 bits, and a stamp. So 20 digits are enough, and the text of one number is
-- no other's.
use mathlib.Core.Path.{◌≡◌, refl, sym, ◌∙◌}
use mathlib.Core.Bool.{Bool, true, false, cond, ◌&&◌, false≢true}
use mathlib.Core.List.{List, [], ◌∷◌, ◌++◌}
use Prim.Native.Nat.{ℕ, zero, suc, ◌+◌, ◌-◌, ◌*◌, ◌/◌, ◌%◌, ◌^◌, ◌<◌, ◌≤◌}
use native.Mathlib.Nat.{pow-suc}
use native.Mathlib.Omega.{arith}
use borrow.Author.Tests.{le-leb, lt-leb, ltb-true, ne_eqb}
use lib.Dec.{leb, ltb, leb-zero}
use lib.IntN.{ℤ, pos, negsuc}
use lib.ListN.{length, length-append}
use Rattle.std.proofs.Common.{Some}
use mir.Syntax.{w64}
use mir.Val.{SFits}
use Rattle.decimal.specs.Reading.{is_digit, all_digits, number_from, number, is_up_to, number_read, stamp_read}
use Rattle.decimal.specs.Writing.{digits, decimal, stamp_text}
use Rattle.decimal.proofs.Numbers.{some_number, number-some, starts, stamp-minus, stamp-plus}

from-join : (n : ℕ) (a b : List ℕ) → number_from n (a ++ b) ≡ number_from (number_from n a) b
unfolding number_from
from-join n [] b = refl
from-join n (d ∷ a) b = from-join (10 * n + (d - 48)) a b

all_join : (a : List ℕ) (d : ℕ) → all_digits a ≡ true → is_digit d ≡ true → all_digits (a ++ (d ∷ [])) ≡ true
unfolding all_digits
all_join [] d p q = rw q
all_join (b ∷ a) d p q = by-test (is_digit b) p (λ r. all_join a d r q)
  where
    by-test : (is : Bool) → (is && all_digits a) ≡ true → (all_digits a ≡ true → all_digits (a ++ (d ∷ [])) ≡ true) → (is && all_digits (a ++ (d ∷ []))) ≡ true
    by-test true p rest = rest p
    by-test false p rest = p

is_digit_lem : (d : ℕ) → d < 10 → is_digit (48 + d) ≡ true
is_digit_lem d h = rw (le-leb 48 (48 + d) (omega arith), le-leb (48 + d) 57 (omega arith))

digits-all : (k n : ℕ) → all_digits (digits k n) ≡ true
unfolding digits all_digits
digits-all zero n = refl
digits-all (suc k) n = by-test (ltb n 10) refl (digits-all k (n / 10))
  where
    by-test : (small : Bool) → ltb n 10 ≡ small → all_digits (digits k (n / 10)) ≡ true → all_digits (cond small ((48 + n) ∷ []) (digits k (n / 10) ++ ((48 + n % 10) ∷ []))) ≡ true
    by-test true h rest = rw (is_digit_lem n (ltb-true n 10 h))
    by-test false h rest = all_join (digits k (n / 10)) (48 + n % 10) rest (is_digit_lem (n % 10) (omega arith))

digits_number : (k n : ℕ) → n < 10 ^ k → number (digits k n) ≡ n
unfolding digits number_from
digits_number zero n h = omega arith
digits_number (suc k) n h = by-test (ltb n 10) refl (digits_number k (n / 10) (omega (arith, pow-suc 10 k)))
  where
    by-test : (small : Bool) → ltb n 10 ≡ small → number_from 0 (digits k (n / 10)) ≡ n / 10 → number_from 0 (cond small ((48 + n) ∷ []) (digits k (n / 10) ++ ((48 + n % 10) ∷ []))) ≡ n
    by-test true h rest = omega arith
    by-test false h rest = from-join 0 (digits k (n / 10)) ((48 + n % 10) ∷ []) ∙ rw rest (omega arith)

digits-some : (k n : ℕ) → length (digits (suc k) n) ≡ 0 → ⊥
unfolding digits
digits-some k n = by-test (ltb n 10)
  where
    by-test : (small : Bool) → length (cond small ((48 + n) ∷ []) (digits k (n / 10) ++ ((48 + n % 10) ∷ []))) ≡ 0 → ⊥
    by-test true e = omega arith
    by-test false e = omega (arith, length-append (digits k (n / 10)) ((48 + n % 10) ∷ []))

-- a minus is no digit
no_minus : (l : List ℕ) → all_digits l ≡ true → starts l ≡ false
unfolding all_digits
no_minus [] all = refl
no_minus (b ∷ bs) all = let other = ne_eqb b 45 (digit b bs all) in rw other refl
  where
    digit : (b : ℕ) (bs : List ℕ) → (is_digit b && all_digits bs) ≡ true → b ≡ 45 → ⊥
    digit b bs all e = let low : leb 48 b ≡ false = lt-leb 48 b (omega arith) in false≢true (sym (rw low) ∙ all)

-- a number of 64 bits reads back
pub number-back : (most n : ℕ) → n ≤ most → n < 2 ^ 64 → number_read most (decimal n) ≡ Some n
unfolding number_read is_up_to
number-back most n fits small =
    let some : 0 < length (decimal n) = omega (arith, digits-some 19 n) in
    rw (some_number (decimal n) some, digits-all 20 n, digits_number 20 n (omega arith), le-leb n most fits)

-- and so does a stamp
pub stamp-back : (z : ℤ) → SFits w64 z → stamp_read (stamp_text z) ≡ Some (record { micros = z })
unfolding stamp_text
stamp-back (pos n) f =
    let h : n < 9223372036854775808 = f.sfits in
    let back = number-some _ n _ (number-back 9223372036854775807 n (omega arith) (omega arith)) in
    rw (leb-zero n, stamp-plus (decimal n) (no_minus (decimal n) (digits-all 20 n)), back.0, back.1)
stamp-back (negsuc n) f =
    let h : n < 9223372036854775808 = f.sfits in
    let back = number-some _ (suc n) _ (number-back 9223372036854775808 (suc n) (omega arith) (omega arith)) in
    rw (stamp-minus (45 ∷ decimal (suc n)) refl, back.0, back.1)

-- `0`, `400000`, `-1`, by computation
texts : decimal 0 ∷ decimal 400000 ∷ stamp_text (negsuc 0) ∷ [] ≡ (48 ∷ []) ∷ (52 ∷ 48 ∷ 48 ∷ 48 ∷ 48 ∷ 48 ∷ []) ∷ (45 ∷ 49 ∷ []) ∷ []
unfolding digits stamp_text
texts = refl
