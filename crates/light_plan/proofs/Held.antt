-- The rows that a plan holds, one after the other: what a loop over them knows at each.
use Rattle.std.proofs.Common.{◌≡◌, ap, ◌∙◌, arith, cond, List, ◌∷◌, ◌||◌, ℕ, ◌+◌, ◌<◌, min, ltb, length, get_or, drop}
use Rattle.std.proofs.lemmas.List.{drop_more}
use Rattle.laws.proofs.Tab.{length-tabulate, get_d_tabulate}
use Rattle.light_plan.specs.declared.Plan.{Plan}
use Rattle.light_plan.specs.declared.Row.{Row}
use Rattle.light_plan.specs.Rows.{has, rows_with, any_reversed, threshold_at}
use Rattle.light_plan.specs.Plan.{row_at, rows_of}

pub rows_length : (p : Plan) → length (rows_of p) ≡ min p.count 16
rows_length p = length-tabulate (min p.count 16) (row_at p)

-- the rows from place i on are the row at i and those after it
pub rows_from : (p : Plan) (i : ℕ) → i < length (rows_of p) → drop i (rows_of p) ≡ row_at p i ∷ drop (i + 1) (rows_of p)
rows_from p i h =
    drop_more (rows_of p) i (row_at p i) h
    ∙ ap (λ (r : Row). r ∷ drop (i + 1) (rows_of p)) (get_d_tabulate (min p.count 16) (row_at p) (row_at p i) i (omega (arith, rows_length p)))

pub reversed_from : (p : Plan) (i : ℕ) → i < length (rows_of p)
    → any_reversed (drop i (rows_of p)) ≡ (ltb (get_or p.to i 0) (get_or p.from i 0) || any_reversed (drop (i + 1) (rows_of p)))
unfolding any_reversed
reversed_from p i h = ap any_reversed (rows_from p i h)

pub threshold_from : (p : Plan) (m i : ℕ) → i < length (rows_of p)
    → threshold_at (drop i (rows_of p)) m ≡ cond (has m (row_at p i)) (get_or p.threshold i 0) (threshold_at (drop (i + 1) (rows_of p)) m)
unfolding threshold_at
threshold_from p m i h = ap (λ (rows : List Row). threshold_at rows m) (rows_from p i h)

pub with_from : (p : Plan) (m i : ℕ) → i < length (rows_of p)
    → rows_with (drop i (rows_of p)) m ≡ cond (has m (row_at p i)) 1 0 + rows_with (drop (i + 1) (rows_of p)) m
unfolding rows_with
with_from p m i h = ap (λ (rows : List Row). rows_with rows m) (rows_from p i h)
