-- A light plan as a record: a count, and three arrays of 16 bytes (RULES 18.4).
use Rattle.std.specs.Prelude.{Bool, not, List, [], ◌++◌, map, ℕ, ◌-◌, min, eqb, length, get_or, take, replicate}
use Rattle.laws.specs.Lists.{tabulate}
use Rattle.light_plan.specs.declared.Plan.{Plan}
use Rattle.light_plan.specs.declared.Row.{Row}
use Rattle.light_plan.specs.Rows.{row, rows_refusal}

-- the row at a place of the three arrays
abbrev pub row_at : Plan → ℕ → Row
row_at p i = row (get_or p.from i 0) (get_or p.to i 0) (get_or p.threshold i 0)

-- the rows that a plan holds: those of its first `count` places, of which there are 16. What stands past the count is not looked at (RULES 18.4).
abbrev pub rows_of : Plan → List Row
rows_of p = tabulate (min p.count 16) (row_at p)

-- a plan is given: it has rows; no plan is count 0 (RULES 18.2, 18.4)
abbrev pub is_given : Plan → Bool
is_given p = not (eqb p.count 0)

-- 20, 21 or 22 by which a plan is refused, or 0 (RULES 18.3)
abbrev pub plan_refusal : Plan → ℕ
plan_refusal p = rows_refusal p.count (rows_of p)

-- sixteen bytes, of which those are 0 that stand past the first `count` (RULES 18.4): of one byte for each of at most 16 rows, or of sixteen bytes,
-- which are all kept where `count` is more
abbrev pub kept : (count : ℕ) → List ℕ → List ℕ
kept count bytes = take count bytes ++ replicate (16 - count) 0

-- the plan with 0 in the places past its count
abbrev pub tidied : Plan → Plan
tidied p = record { count = p.count; from = kept p.count p.from; to = kept p.count p.to; threshold = kept p.count p.threshold }

-- the plan of at most 16 rows, with 0 in the places past them (RULES 18.4)
abbrev pub plan_of : List Row → Plan
plan_of rows =
    let n : ℕ = length rows in
    record {
      count = n;
      from = kept n (map (λ (r : Row). r.from) rows);
      to = kept n (map (λ (r : Row). r.to) rows);
      threshold = kept n (map (λ (r : Row). r.threshold) rows);
    }

-- no plan
abbrev pub no_plan : Plan
no_plan = plan_of []
