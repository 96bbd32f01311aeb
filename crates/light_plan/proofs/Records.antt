-- The rows of a record, and the record of rows.
use Rattle.std.proofs.Common.{◌≡◌, refl, ap, sym, ◌∙◌, arith, false, List, ℕ, ◌≤◌, ◌<◌, min, length, get_or, take, map}
use Rattle.std.proofs.lemmas.List.{length-map, get_or-map, length-take-le, get_or-take, ext_get_or}
use Rattle.std.proofs.lemmas.Bool.Decides.{nat_tests}
use Rattle.laws.proofs.Tab.{is-tabulate, get_d_tabulate}
use Rattle.light_plan.specs.declared.Plan.{Plan}
use Rattle.light_plan.specs.declared.Row.{Row}
use Rattle.light_plan.specs.Rows.{row, rows_refusal}
use Rattle.light_plan.specs.Plan.{row_at, rows_of, is_given, plan_refusal, kept, tidied, plan_of}
use Rattle.light_plan.proofs.Held.{rows_length}
use Rattle.light_plan.proofs.Sixteen.{kept_at, kept_again}

-- a part of each row, put into sixteen bytes, is read back
part_at : (part : Row → ℕ) (rows : List Row) (d : Row) (i : ℕ) → i < length rows
    → get_or (kept (length rows) (map part rows)) i 0 ≡ part (get_or rows i d)
part_at part rows d i h = kept_at (length rows) (map part rows) i h ∙ get_or-map part rows i d 0 h

row_back : (rows : List Row) (d : Row) (i : ℕ) → i < length rows → row_at (plan_of rows) i ≡ get_or rows i d
row_back rows d i h =
    let part : (part : Row → ℕ) → get_or (kept (length rows) (map part rows)) i 0 ≡ part (get_or rows i d) = λ part. part_at part rows d i h in
    rw (part (λ (r : Row). r.from), part (λ (r : Row). r.to), part (λ (r : Row). r.threshold)) refl

-- the plan of up to sixteen rows holds just them
pub rows_back : (rows : List Row) → length rows ≤ 16 → rows_of (plan_of rows) ≡ rows
rows_back rows h =
    sym
    (is-tabulate (row 0 0 0) rows (min (length rows) 16) (row_at (plan_of rows)) (omega arith)
    (λ i k. sym (row_back rows (row 0 0 0) i (omega arith))))

-- and is tidy
pub plan_tidied : (rows : List Row) → length rows ≤ 16 → tidied (plan_of rows) ≡ plan_of rows
plan_tidied rows h =
    let again : (part : Row → ℕ) → kept (length rows) (kept (length rows) (map part rows)) ≡ kept (length rows) (map part rows) =
    λ part. kept_again (length rows) (map part rows) (omega (arith, length-map rows part)) in
    rw (again (λ (r : Row). r.from), again (λ (r : Row). r.to), again (λ (r : Row). r.threshold)) refl

row_kept : (p : Plan) (i : ℕ) → i < p.count → row_at (tidied p) i ≡ row_at p i
row_kept p i h = rw (kept_at p.count p.from i h, kept_at p.count p.to i h, kept_at p.count p.threshold i h) refl

-- a tidied plan holds the same rows
pub rows_tidied : (p : Plan) → rows_of (tidied p) ≡ rows_of p
rows_tidied p =
    sym
    (is-tabulate (row 0 0 0) (rows_of p) (min p.count 16) (row_at (tidied p)) (rows_length p)
    (λ i h. get_d_tabulate (min p.count 16) (row_at p) (row 0 0 0) i h ∙ sym (row_kept p i (omega arith))))

-- and is refused by the same
pub refusal_tidied : (p : Plan) → plan_refusal (tidied p) ≡ plan_refusal p
refusal_tidied p = ap (rows_refusal p.count) (rows_tidied p)

-- a plan of arrays of sixteen is tidy once it is tidied
pub tidied_again : (p : Plan) → length p.from ≡ 16 → length p.to ≡ 16 → length p.threshold ≡ 16 → tidied (tidied p) ≡ tidied p
tidied_again p a b c =
    rw (kept_again p.count p.from (omega arith), kept_again p.count p.to (omega arith), kept_again p.count p.threshold (omega arith)) refl

-- one part of each row that a plan holds, put into sixteen bytes, is the array that the plan has for it, with 0 past its count
part_of_rows : (p : Plan) (part : Row → ℕ) (bytes : List ℕ) → p.count ≤ 16 → p.count ≤ length bytes
    → ((i : ℕ) → part (row_at p i) ≡ get_or bytes i 0) → kept (length (rows_of p)) (map part (rows_of p)) ≡ kept p.count bytes
part_of_rows p part bytes few enough is = rw (size, same) refl
  where
    parts : List ℕ
    parts = map part (rows_of p)

    size : length (rows_of p) ≡ p.count
    size = omega (arith, rows_length p)

    first : length (take p.count parts) ≡ p.count
    first = length-take-le p.count parts (omega (arith, length-map (rows_of p) part, size))

    place : (i : ℕ) → i < p.count → get_or (take p.count parts) i 0 ≡ get_or (take p.count bytes) i 0
    place i h =
        get_or-take p.count parts i 0 h
        ∙ get_or-map part (rows_of p) i (row 0 0 0) 0 (omega (arith, size))
        ∙ ap part (get_d_tabulate (min p.count 16) (row_at p) (row 0 0 0) i (omega arith))
        ∙ is i
        ∙ sym (get_or-take p.count bytes i 0 h)

    same : take p.count parts ≡ take p.count bytes
    same =
        ext_get_or 0 (take p.count parts) (take p.count bytes) (first ∙ sym (length-take-le p.count bytes enough))
        (λ i h. place i (omega (arith, first)))

-- the rows that a plan of arrays of sixteen holds make the plan, tidied
pub made_of_rows : (p : Plan) → p.count ≤ 16 → length p.from ≡ 16 → length p.to ≡ 16 → length p.threshold ≡ 16 → plan_of (rows_of p) ≡ tidied p
made_of_rows p few a b c =
    let size : length (rows_of p) ≡ p.count = omega (arith, rows_length p) in
    rw (
      part_of_rows p (λ (r : Row). r.from) p.from few (omega arith) (λ i. refl),
      part_of_rows p (λ (r : Row). r.to) p.to few (omega arith) (λ i. refl),
      part_of_rows p (λ (r : Row). r.threshold) p.threshold few (omega arith) (λ i. refl),
      size,
    )
    refl

-- no plan is not refused
pub not_given : (p : Plan) → is_given p ≡ false → plan_refusal p ≡ 0
unfolding rows_refusal
not_given p e = grind (arith, nat_tests)
