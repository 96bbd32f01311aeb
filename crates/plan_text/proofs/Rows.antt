-- The rows of a plan are bytes; how long their texts are.
use mathlib.Core.Path.{◌≡◌, refl, ap, ◌∙◌}
use mathlib.Core.List.{List, [], ◌∷◌, ◌++◌, append_assoc, append-nil}
use Prim.Native.Nat.{ℕ, zero, suc, ◌+◌, ◌*◌, ◌≤◌, ◌<◌, min}
use native.Mathlib.Omega.{arith}
use lib.ListN.{length, get_or, take, drop, length-append}
use lib.Seq.{take_at}
use Rattle.decimal.specs.Placed.{placed}
use Rattle.std.proofs.lemmas.List.{take_more}
use Rattle.laws.specs.Lists.{tabulate, All}
use Rattle.laws.proofs.Tab.{length-tabulate, get_d_tabulate}
use Rattle.decimal.specs.Writing.{decimal}
use Rattle.decimal.proofs.Lengths.{digits-short}
use Rattle.light_plan.specs.declared.Plan.{Plan}
use Rattle.light_plan.specs.declared.Row.{Row}
use Rattle.light_plan.specs.Plan.{row_at, rows_of}
use Rattle.plan_text.specs.Text.{row_text, rows_text}

-- the three numbers of a row are bytes
pub record IsByteRow (r : Row) : Type 0 where
  pub from : r.from < 256
  pub to : r.to < 256
  pub threshold : r.threshold < 256

-- a number of at most three digits, and the byte after it
pub cell_length : (n end : ℕ) → n < 256 → length (decimal n ++ (end ∷ [])) ≤ 4
cell_length n end h = omega (arith, length-append (decimal n) (end ∷ []), digits-short 20 2 n (omega arith))

-- the three texts of a row
pub row_parts : (r : Row) → ((decimal r.from ++ (44 ∷ [])) ++ (decimal r.to ++ (44 ∷ []))) ++ (decimal r.threshold ++ (10 ∷ [])) ≡ row_text r
unfolding row_text
row_parts r = simp append_assoc

pub row_length : (r : Row) → IsByteRow r → length (row_text r) ≤ 12
row_length r B =
    let f = decimal r.from ++ (44 ∷ []) in
    let g = decimal r.to ++ (44 ∷ []) in
    let k = decimal r.threshold ++ (10 ∷ []) in
    rw (← row_parts r, length-append (f ++ g) k, length-append f g)
    (omega (arith, cell_length r.from 44 B.from, cell_length r.to 44 B.to, cell_length r.threshold 10 B.threshold))

-- rows one after the other
pub texts_after : (rows more : List Row) → rows_text (rows ++ more) ≡ rows_text rows ++ rows_text more
unfolding rows_text
texts_after [] more = refl
texts_after (r ∷ rows) more = rw (texts_after rows more, append_assoc (row_text r) (rows_text rows) (rows_text more)) refl

-- one row more
pub texts_more : (rows : List Row) (r : Row) → rows_text (rows ++ (r ∷ [])) ≡ rows_text rows ++ row_text r
unfolding rows_text
texts_more rows r = texts_after rows (r ∷ []) ∙ rw (append-nil (row_text r)) refl

-- the first i rows
pub texts_length : (i : ℕ) (rows : List Row) → All IsByteRow rows → length (rows_text (take i rows)) ≤ 12 * i
unfolding rows_text
texts_length zero rows h = omega arith
texts_length (suc i) [] h = omega arith
texts_length (suc i) (r ∷ rows) h = omega (arith, length-append (row_text r) (rows_text (take i rows)), row_length r h.0, texts_length i rows h.1)

-- three arrays of bytes
pub record AreBytes (p : Plan) : Type 0 where
  pub from : (i : ℕ) → get_or p.from i 0 < 256
  pub to : (i : ℕ) → get_or p.to i 0 < 256
  pub threshold : (i : ℕ) → get_or p.threshold i 0 < 256

all_tabulated : (n : ℕ) (f : ℕ → Row) → ((i : ℕ) → IsByteRow (f i)) → All IsByteRow (tabulate n f)
unfolding tabulate
all_tabulated zero f h = tt
all_tabulated (suc n) f h = (h 0, all_tabulated n (λ i. f (suc i)) (λ i. h (suc i)))

pub bytes_at : (p : Plan) → AreBytes p → (i : ℕ) → IsByteRow (row_at p i)
bytes_at p A i = record { from = A.from i; to = A.to i; threshold = A.threshold i }

pub all_bytes : (p : Plan) → AreBytes p → All IsByteRow (rows_of p)
all_bytes p A = all_tabulated (min p.count 16) (row_at p) (bytes_at p A)

-- one row more of a plan
pub rows_more : (p : Plan) (i : ℕ) → i < length (rows_of p) → rows_text (take (i + 1) (rows_of p)) ≡ rows_text (take i (rows_of p)) ++ row_text (row_at p i)
rows_more p i h =
    let here : get_or (rows_of p) i (row_at p i) ≡ row_at p i =
    get_d_tabulate (min p.count 16) (row_at p) (row_at p i) i (omega (arith, length-tabulate (min p.count 16) (row_at p))) in
    ap rows_text (take_more (rows_of p) i (row_at p i) h ∙ ap (λ (r : Row). take i (rows_of p) ++ (r ∷ [])) here) ∙ texts_more (take i (rows_of p)) (row_at p i)

-- a text that is placed at the start is what the memory begins with
pub placed_first : (out out' t : List ℕ) (n : ℕ) → out' ≡ placed out 0 t → n ≡ 0 + length t → take n out' ≡ t
unfolding placed
placed_first out out' t n e size = rw e (take_at t (drop (length t) (drop 0 out)) n (omega arith))
