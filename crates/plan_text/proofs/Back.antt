-- What is written reads back: a number, a row, rows, and a plan.
use mathlib.Core.Path.{◌≡◌, refl, ap, sym, ◌∙◌}
use mathlib.Core.Bool.{Bool, true, false, cond}
use mathlib.Core.List.{List, [], ◌∷◌, ◌++◌, append_assoc, append-nil}
use Prim.Native.Nat.{ℕ, zero, suc, ◌+◌, ◌/◌, ◌%◌, ◌^◌, ◌≤◌, ◌<◌}
use native.Mathlib.Nat.{pow-suc}
use native.Mathlib.Omega.{arith}
use borrow.Author.Tests.{ne_eqb, le-leb, leb-true, ltb-false}
use lib.Dec.{leb, ltb}
use lib.ListN.{length}
use Rattle.std.proofs.Common.{Some}
use Rattle.std.proofs.lemmas.List.Elements.{All-nil, All-cons, All-append}
use Rattle.laws.specs.Lists.{All}
use Rattle.laws.proofs.Bools.{and-true}
use Rattle.decimal.specs.Reading.{is_digit, all_digits, is_number, number, is_up_to}
use Rattle.decimal.specs.Writing.{digits, decimal}
use Rattle.decimal.proofs.Numbers.{number-some}
use Rattle.decimal.proofs.Back.{number-back}
use Rattle.light_plan.specs.declared.Row.{Row}
use Rattle.light_plan.specs.declared.Plan.{Plan}
use Rattle.light_plan.specs.Rows.{row, rows_refusal}
use Rattle.light_plan.specs.Plan.{rows_of, plan_of, plan_refusal, tidied}
use Rattle.light_plan.proofs.Held.{rows_length}
use Rattle.light_plan.proofs.Records.{rows_back, made_of_rows}
use Rattle.light_plan.proofs.Single.{one_row}
use Rattle.plan_text.specs.Text.{leading_zero, field_read, row_read, rows_read, plan_read, refusal_of, text_refusal, row_text, rows_text}
use Rattle.decimal.proofs.Parts.{is_byte, Without, parted_none, parted-at}
use Rattle.plan_text.proofs.Texts.{line_first, no_text}
use Rattle.plan_text.proofs.Rows.{IsByteRow, AreBytes, all_bytes}

-- the first digit of a number over 0 is no `0`
first_digit : (k n : ℕ) → n < 10 ^ k → 0 < n → (b : ℕ) × (bs : List ℕ) × (digits k n ≡ b ∷ bs) × (b ≡ 48 → ⊥)
unfolding digits
first_digit zero n h some = absurd (omega arith)
first_digit (suc k) n h some = by-test (ltb n 10) refl (λ more. first_digit k (n / 10) (omega (arith, pow-suc 10 k)) more)
  where
    by-test : (small : Bool) → ltb n 10 ≡ small → (0 < n / 10 → (b : ℕ) × (bs : List ℕ) × (digits k (n / 10) ≡ b ∷ bs) × (b ≡ 48 → ⊥))
        → (b : ℕ) × (bs : List ℕ) × (cond small ((48 + n) ∷ []) (digits k (n / 10) ++ ((48 + n % 10) ∷ [])) ≡ b ∷ bs) × (b ≡ 48 → ⊥)
    by-test true t rest = (48 + n, [], refl, λ e. omega arith)
    by-test false t rest =
        let r = rest (omega (arith, ltb-false n 10 t)) in
        (r.0, r.1 ++ ((48 + n % 10) ∷ []), rw r.2 refl, r.3)

other_leads : (b : ℕ) (bs : List ℕ) → (b ≡ 48 → ⊥) → leading_zero (b ∷ bs) ≡ false
other_leads b [] other = refl
other_leads b (c ∷ bs) other = ne_eqb b 48 other

no_leading_zero : (n : ℕ) → n < 256 → leading_zero (decimal n) ≡ false
unfolding digits
no_leading_zero zero h = refl
no_leading_zero (suc n) h = let d = first_digit 20 (suc n) (omega arith) (omega arith) in rw d.2 (other_leads d.0 d.1 d.3)

pub field_back : (n : ℕ) → n < 256 → field_read (decimal n) ≡ Some n
unfolding field_read
field_back n h = rw (no_leading_zero n h) (number-back 255 n (omega arith) (omega arith))

-- a byte below `0` is no digit
are_digits : (t : List ℕ) → is_number t ≡ true → all_digits t ≡ true
unfolding is_number
are_digits [] e = cc
are_digits (b ∷ bs) e = e

digits_without : (c : ℕ) (t : List ℕ) → c < 48 → all_digits t ≡ true → Without c t
unfolding all_digits
digits_without c [] h e = All-nil (λ b. is_byte c b ≡ false)
digits_without c (b ∷ bs) h e =
    let parts = and-true (is_digit b) (all_digits bs) e in
    let low = leb-true 48 b (and-true (leb 48 b) (leb b 57) parts.0).0 in
    All-cons (λ x. is_byte c x ≡ false) b bs (ne_eqb b c (λ q. omega (arith, low))) (digits_without c bs h parts.1)

number_without : (c n : ℕ) → c < 48 → n < 256 → Without c (decimal n)
unfolding is_up_to
number_without c n h k =
    let some = number-some 255 n (decimal n) (number-back 255 n (omega arith) (omega arith)) in
    digits_without c (decimal n) h (are_digits (decimal n) (and-true (is_number (decimal n)) (leb (number (decimal n)) 255) some.0).0)

-- a row's line
abbrev line_of : Row → List ℕ
line_of r = decimal r.from ++ (44 ∷ (decimal r.to ++ (44 ∷ decimal r.threshold)))

line_text : (r : Row) (rest : List ℕ) → row_text r ++ rest ≡ line_of r ++ (10 ∷ rest)
unfolding row_text
line_text r rest = simp append_assoc

pub row_back : (r : Row) → IsByteRow r → row_read (line_of r) ≡ Some r
unfolding row_read
row_back r B =
    rw (
      parted-at 44 (decimal r.from) (decimal r.to ++ (44 ∷ decimal r.threshold)) (number_without 44 r.from (omega arith) B.from),
      parted-at 44 (decimal r.to) (decimal r.threshold) (number_without 44 r.to (omega arith) B.to),
      parted_none 44 (decimal r.threshold) (number_without 44 r.threshold (omega arith) B.threshold),
      field_back r.from B.from,
      field_back r.to B.to,
      field_back r.threshold B.threshold,
    )
    refl

line_without : (r : Row) → IsByteRow r → Without 10 (line_of r)
line_without r B =
    let no : ℕ → Type 0 = λ b. is_byte 10 b ≡ false in
    All-append no (decimal r.from) (44 ∷ (decimal r.to ++ (44 ∷ decimal r.threshold))) (number_without 10 r.from (omega arith) B.from)
    (All-cons no 44 (decimal r.to ++ (44 ∷ decimal r.threshold)) refl
    (All-append no (decimal r.to) (44 ∷ decimal r.threshold) (number_without 10 r.to (omega arith) B.to)
    (All-cons no 44 (decimal r.threshold) refl (number_without 10 r.threshold (omega arith) B.threshold))))

-- rows of bytes, however many
pub text_back : (rows : List Row) → All IsByteRow rows → rows_read (rows_text rows) ≡ Some rows
unfolding rows_text
text_back [] h = no_text [] refl
text_back (r ∷ rows) h =
    ap rows_read (line_text r (rows_text rows)) ∙ line_first (line_of r) (rows_text rows) (line_without r h.0) ∙ rw (row_back r h.0, text_back rows h.1) refl

-- at most 16 rows of bytes read back as their plan
pub rows_plan_back : (rows : List Row) → All IsByteRow rows → length rows ≤ 16 → plan_read (rows_text rows) ≡ Some (plan_of rows)
rows_plan_back rows h few = rw (text_back rows h, le-leb (length rows) 16 few) refl

-- the text of a plan of at most 16 rows reads back as the plan, with 0 in the places past them (RULES 18.4, 18.7)
pub plan_back : (p : Plan) → AreBytes p → p.count ≤ 16 → length p.from ≡ 16 → length p.to ≡ 16 → length p.threshold ≡ 16
    → plan_read (rows_text (rows_of p)) ≡ Some (tidied p)
plan_back p A few a b c =
    rows_plan_back (rows_of p) (all_bytes p A) (omega (arith, rows_length p)) ∙ ap Some (made_of_rows p few a b c)

-- and is refused by the same as the plan (RULES 18.3)
pub refusal_back : (p : Plan) → AreBytes p → p.count ≤ 16 → text_refusal (rows_text (rows_of p)) ≡ plan_refusal p
refusal_back p A few =
    let size : length (rows_of p) ≡ p.count = omega (arith, rows_length p) in
    ap refusal_of (text_back (rows_of p) (all_bytes p A)) ∙ ap (λ (n : ℕ). rows_refusal n (rows_of p)) size

-- the text `0,255,t` says the one row from 0 to 255 (RULES 18.6)
pub one_row_text : (t : ℕ) → t < 256 → rows_read (row_text (row 0 255 t)) ≡ Some (row 0 255 t ∷ [])
unfolding rows_text
one_row_text t h =
    let B : IsByteRow (row 0 255 t) = record { from = omega arith; to = omega arith; threshold = h } in
    ap rows_read (sym (append-nil (row_text (row 0 255 t)))) ∙ text_back (row 0 255 t ∷ []) (B, tt)

-- it is the plan of that row
pub one_row_plan : (t : ℕ) → t < 256 → plan_read (row_text (row 0 255 t)) ≡ Some (plan_of (row 0 255 t ∷ []))
one_row_plan t h = rw (one_row_text t h) refl

-- and is not refused
pub one_row_refusal : (t : ℕ) → t < 256 → text_refusal (row_text (row 0 255 t)) ≡ 0
one_row_refusal t h =
    ap refusal_of (one_row_text t h) ∙ ap (rows_refusal 1) (sym (rows_back (row 0 255 t ∷ []) (omega arith))) ∙ (one_row t).accepted
