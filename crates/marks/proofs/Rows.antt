-- The rows of the table: the texts that a row is made of, how long rows are, and the rows one after the other.
use mathlib.Core.Path.{◌≡◌, refl, ◌∙◌}
use mathlib.Core.Bool.{Bool, true, false, cond}
use mathlib.Core.List.{[], ◌∷◌, ◌++◌, append_assoc}
use Prim.Native.Nat.{ℕ, zero, suc, ◌+◌, ◌-◌, ◌*◌, ◌/◌, ◌≤◌, ◌<◌}
use native.Mathlib.Numerals.{add-one}
use native.Mathlib.Omega.{arith}
use lib.Dec.{eqb}
use lib.ListN.{length, length-append}
use Rattle.decimal.specs.Placed.{placed, Wrote}
use Rattle.decimal.specs.Writing.{decimal}
use Rattle.decimal.proofs.Lengths.{decimal_length, digits-short}
use Rattle.decimal.specs.declared.Writer.{Writer}
use Rattle.decimal.proofs.Writes.{wrote_next}
use Rattle.canny_marks.specs.Marks.{low_mark, high_mark}
use Rattle.marks.specs.Text.{table_header, row_text, rows_text, table_text}

-- a number and the byte after it
pub cell-length : (n end : ℕ) → length (decimal n ++ (end ∷ [])) ≤ 21
cell-length n end = omega (arith, length-append (decimal n) (end ∷ []), decimal_length n)

-- of a number below 1,000: three digits at most
short : (n end : ℕ) → n < 1000 → length (decimal n ++ (end ∷ [])) ≤ 4
short n end h = omega (arith, length-append (decimal n) (end ∷ []), digits-short 20 2 n h)

-- the three texts of a row
pub row-parts : (m : ℕ) → ((decimal m ++ (44 ∷ [])) ++ (decimal (low_mark m) ++ (44 ∷ []))) ++ (decimal (high_mark m) ++ (10 ∷ [])) ≡ row_text m
unfolding row_text
row-parts m = simp append_assoc

low_byte : (m : ℕ) → m < 256 → low_mark m < 1000
unfolding low_mark
low_byte m h = by-test (eqb m 0)
  where
    by-test : (none : Bool) → cond none 0 ((2 * m - 1) / 3) < 1000
    by-test true = omega arith
    by-test false = omega arith

high_byte : (m : ℕ) → high_mark m < 1000
unfolding high_mark
high_byte m = omega arith

pub row-length : (m : ℕ) → m < 256 → length (row_text m) ≤ 12
row-length m h =
    let f = decimal m ++ (44 ∷ []) in
    let g = decimal (low_mark m) ++ (44 ∷ []) in
    let k = decimal (high_mark m) ++ (10 ∷ []) in
    rw (← row-parts m, length-append (f ++ g) k, length-append f g)
    (omega (arith, short m 44 (omega arith), short (low_mark m) 44 (low_byte m h), short (high_mark m) 10 (high_byte m)))

-- one row more
pub rows_next : (m : ℕ) → rows_text (m + 1) ≡ rows_text m ++ row_text m
unfolding rows_text
rows_next m = rw (add-one m) refl

-- the last row
pub rows_last : (m : ℕ) → m ≡ 255 → rows_text 256 ≡ rows_text m ++ row_text m
rows_last m e = rw e (rows_next 255)

pub rows-length : (m : ℕ) → m ≤ 256 → length (rows_text m) ≤ 12 * m
unfolding rows_text
rows-length zero h = omega arith
rows-length (suc m) h = omega (arith, length-append (rows_text m) (row_text m), row-length m (omega arith), rows-length m (omega arith))

-- the header, and the rows after it
pub table-wrote : (w : Writer) {w₁ w₂ : Writer} → w.at ≡ 0 → Wrote w table_header w₁ → Wrote w₁ (rows_text 256) w₂ → (w₂.out.now ≡ placed w.out.now 0 table_text) × (w₂.at ≡ length table_text)
unfolding table_text
table-wrote w start first next =
    let whole : Wrote w (table_header ++ rows_text 256) _ = wrote_next (omega (arith, start)) first next in
    (whole.memory ∙ rw start refl, omega (arith, whole.place, start))

-- the room of `main` is enough
pub table-length : length table_text ≤ 4096
unfolding table_text
table-length = omega (arith, length-append table_header (rows_text 256), rows-length 256 (omega arith))
