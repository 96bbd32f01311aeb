-- A text that says rows is their text: no other text says them.
use mathlib.Core.Path.{◌≡◌, refl, sym, ap, ◌∙◌}
use mathlib.Core.Bool.{true, false, cond, true≢false}
use mathlib.Core.List.{List, [], ◌∷◌, ◌++◌, append_assoc}
use Prim.Native.Nat.{ℕ, suc, ◌+◌, ◌-◌, ◌*◌, ◌/◌, ◌%◌, ◌<◌, ◌≤◌}
use native.Mathlib.Omega.{arith}
use borrow.Author.Tests.{eq-eqb, ne_eqb, leb-true, lt-ltb, le-ltb}
use lib.Dec.{eqb, leb}
use lib.ListN.{length}
use Rattle.std.proofs.Common.{Option, Some, None}
use Rattle.std.specs.List.{join_with_byte}
use Rattle.laws.proofs.Bools.{and-true}
use Rattle.decimal.specs.Parts.{parted}
use Rattle.decimal.specs.Reading.{is_digit, all_digits, is_number, number_from, number, is_up_to}
use Rattle.decimal.specs.Writing.{digits, decimal}
use Rattle.decimal.proofs.Numbers.{number-some, from_up}
use Rattle.light_plan.specs.declared.Row.{Row}
use Rattle.light_plan.specs.declared.Plan.{Plan}
use Rattle.light_plan.specs.Plan.{rows_of}
use Rattle.plan_text.specs.Text.{leading_zero, field_read, row_if, row_of_fields, row_read, row_before, rows_of_parts, rows_read, plan_read, row_text, rows_text}
use Rattle.decimal.proofs.Parts.{parted_joined}
use Rattle.plan_text.proofs.Fields.{field_some}
use Rattle.plan_text.proofs.Plans.{rows_held}

-- numbers of one, two and three digits
last_digit : (k n : ℕ) → n < 10 → digits (suc k) n ≡ (48 + n) ∷ []
unfolding digits
last_digit k n h = rw (lt-ltb n 10 h)

more_digits : (k n : ℕ) → 10 ≤ n → digits (suc k) n ≡ digits k (n / 10) ++ ((48 + n % 10) ∷ [])
unfolding digits
more_digits k n h = rw (le-ltb n 10 h)

one_digit : (n : ℕ) → n < 10 → decimal n ≡ (48 + n) ∷ []
one_digit n h = last_digit 19 n h

two_digits : (n : ℕ) → 10 ≤ n → n < 100 → decimal n ≡ (48 + n / 10) ∷ (48 + n % 10) ∷ []
two_digits n h k = more_digits 19 n h ∙ rw (last_digit 18 (n / 10) (omega arith))

three_digits : (n : ℕ) → 100 ≤ n → n < 1000 → decimal n ≡ (48 + n / 10 / 10) ∷ (48 + n / 10 % 10) ∷ (48 + n % 10) ∷ []
three_digits n h k = more_digits 19 n (omega arith) ∙ rw (more_digits 18 (n / 10) (omega arith), last_digit 17 (n / 10 / 10) (omega arith))

-- digits
record IsDigit (b : ℕ) : Type 0 where
  pub low : 48 ≤ b
  pub high : b ≤ 57

digit_of : (b : ℕ) → is_digit b ≡ true → IsDigit b
digit_of b e = let p = and-true (leb 48 b) (leb b 57) e in record { low = leb-true 48 b p.0; high = leb-true b 57 p.1 }

not_zero : (b : ℕ) → IsDigit b → eqb b 48 ≡ false → 49 ≤ b
not_zero b d z = let other : b ≡ 48 → ⊥ = λ q. true≢false (sym (eq-eqb b 48 q) ∙ z) in omega (arith, other)

one_alone : (b : ℕ) → IsDigit b → decimal (0 + (b - 48)) ≡ b ∷ []
one_alone b d = let first : 48 + (0 + (b - 48)) ≡ b = omega arith in one_digit (0 + (b - 48)) (omega arith) ∙ rw first

two_alone : (b c : ℕ) → IsDigit b → IsDigit c → 49 ≤ b → decimal (10 * (0 + (b - 48)) + (c - 48)) ≡ b ∷ c ∷ []
two_alone b c d e h =
    let n = 10 * (0 + (b - 48)) + (c - 48) in
    let first : 48 + n / 10 ≡ b = omega arith in
    let last : 48 + n % 10 ≡ c = omega arith in
    two_digits n (omega arith) (omega arith) ∙ rw (first, last)

three_alone : (b c f : ℕ) → IsDigit b → IsDigit c → IsDigit f → 49 ≤ b → decimal (10 * (10 * (0 + (b - 48)) + (c - 48)) + (f - 48)) ≡ b ∷ c ∷ f ∷ []
three_alone b c f d e g h =
    let m = 10 * (0 + (b - 48)) + (c - 48) in
    let n = 10 * m + (f - 48) in
    let front : n / 10 ≡ m = omega arith in
    let first : 48 + m / 10 ≡ b = omega arith in
    let second : 48 + m % 10 ≡ c = omega arith in
    let last : 48 + n % 10 ≡ f = omega arith in
    three_digits n (omega arith) (omega arith) ∙ rw (front, first, second, last)

-- a number of at most 255 without a leading zero is written as it was: it has three digits at most
digits_alone : (t : List ℕ) → leading_zero t ≡ false → is_number t ≡ true → number t ≤ 255 → decimal (number t) ≡ t
unfolding is_number all_digits number_from
digits_alone [] z e h = cc
digits_alone (b ∷ []) z e h = one_alone b (digit_of b (and-true (is_digit b) true e).0)
digits_alone (b ∷ c ∷ []) z e h =
    let p = and-true (is_digit b) (all_digits (c ∷ [])) e in
    let d = digit_of b p.0 in
    two_alone b c d (digit_of c (and-true (is_digit c) true p.1).0) (not_zero b d z)
digits_alone (b ∷ c ∷ f ∷ []) z e h =
    let p = and-true (is_digit b) (all_digits (c ∷ f ∷ [])) e in
    let q = and-true (is_digit c) (all_digits (f ∷ [])) p.1 in
    let d = digit_of b p.0 in
    three_alone b c f d (digit_of c q.0) (digit_of f (and-true (is_digit f) true q.1).0) (not_zero b d z)
digits_alone (b ∷ c ∷ f ∷ g ∷ bs) z e h =
    let p = and-true (is_digit b) (all_digits (c ∷ f ∷ g ∷ bs)) e in
    let first : 49 ≤ b = not_zero b (digit_of b p.0) z in
    let up = from_up (10 * (10 * (10 * (0 + (b - 48)) + (c - 48)) + (f - 48)) + (g - 48)) bs in
    absurd (omega (arith, up))

pub field_alone : (t : List ℕ) (n : ℕ) → field_read t ≡ Some n → decimal n ≡ t
unfolding is_up_to
field_alone t n e =
    let f = field_some t n e in
    let some = number-some 255 n t f.1 in
    let p = and-true (is_number t) (leb (number t) 255) some.0 in
    rw (← some.1) (digits_alone t f.0 p.0 (leb-true (number t) 255 p.1))

row_if_some : (a b c : Option ℕ) (r : Row) → row_if a b c ≡ Some r → (a ≡ Some r.from) × (b ≡ Some r.to) × (c ≡ Some r.threshold)
row_if_some None b c r e = cc
row_if_some (Some x) None c r e = cc
row_if_some (Some x) (Some y) None r e = cc
row_if_some (Some x) (Some y) (Some z) r e = (cc, cc, cc)

pub row_alone : (line : List ℕ) (r : Row) → row_read line ≡ Some r → row_text r ≡ line ++ (10 ∷ [])
unfolding row_read row_text
row_alone line r e = by-fields (parted 44 line) refl e
  where
    by-fields : (fs : List (List ℕ)) → parted 44 line ≡ fs → row_of_fields fs ≡ Some r
        → decimal r.from ++ (44 ∷ (decimal r.to ++ (44 ∷ (decimal r.threshold ++ (10 ∷ []))))) ≡ line ++ (10 ∷ [])
    by-fields [] p e = cc
    by-fields (f ∷ []) p e = cc
    by-fields (f ∷ g ∷ []) p e = cc
    by-fields (f ∷ g ∷ h ∷ []) p e =
        let s = row_if_some (field_read f) (field_read g) (field_read h) r e in
        let whole : line ≡ f ++ (44 ∷ (g ++ (44 ∷ h))) = sym (parted_joined 44 line) ∙ ap (join_with_byte 44) p in
        rw (whole, field_alone f r.from s.0, field_alone g r.to s.1, field_alone h r.threshold s.2) (simp append_assoc)
    by-fields (f ∷ g ∷ h ∷ i ∷ fs) p e = cc

-- nothing stands after the last line feed
last_part : (part : List ℕ) (rows : List Row) → cond (eqb (length part) 0) (Some []) None ≡ Some rows → rows_text rows ≡ part
unfolding rows_text
last_part [] [] e = refl
last_part [] (r ∷ rows) e = cc
last_part (b ∷ bs) rows e =
    let some : eqb (length (b ∷ bs)) 0 ≡ false = ne_eqb (length (b ∷ bs)) 0 (λ z. omega (arith, z)) in
    let no_rows = rw some at e in
    cc

-- a row before others
next_part : (part rest : List ℕ) (x : Option Row) (xs : Option (List Row)) (rows : List Row) → ((r : Row) → x ≡ Some r → row_text r ≡ part ++ (10 ∷ []))
    → ((more : List Row) → xs ≡ Some more → rows_text more ≡ rest) → row_before x xs ≡ Some rows → rows_text rows ≡ part ++ (10 ∷ rest)
unfolding rows_text
next_part part rest None xs rows first next e = cc
next_part part rest (Some r) None rows first next e = cc
next_part part rest (Some r) (Some more) rows first next e =
    let same : rows ≡ r ∷ more = cc in
    rw (same, first r refl, next more refl) (append_assoc part (10 ∷ []) rest)

parts_alone : (parts : List (List ℕ)) (rows : List Row) → rows_of_parts parts ≡ Some rows → rows_text rows ≡ join_with_byte 10 parts
unfolding rows_of_parts rows_text
parts_alone [] rows e = cc
parts_alone (part ∷ []) rows e = last_part part rows e
parts_alone (part ∷ next ∷ parts) rows e =
    next_part part (join_with_byte 10 (next ∷ parts)) (row_read part) (rows_of_parts (next ∷ parts)) rows (row_alone part)
    (λ more q. parts_alone (next ∷ parts) more q) e

-- just one text says these rows
pub text_alone : (text : List ℕ) (rows : List Row) → rows_read text ≡ Some rows → rows_text rows ≡ text
unfolding rows_read
text_alone text rows e = parts_alone (parted 10 text) rows e ∙ parted_joined 10 text

-- what is read is what would be written, byte for byte
pub written_again : (text : List ℕ) (p : Plan) → plan_read text ≡ Some p → rows_text (rows_of p) ≡ text
written_again text p e = text_alone text (rows_of p) (rows_held text p e)
