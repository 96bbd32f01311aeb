-- The rows of a light plan (RULES 18): which medians a row has, what rows are refused by, and the threshold of a median.
use Rattle.std.specs.Prelude.{Bool, false, cond, ◌&&◌, ◌||◌, List, [], ◌∷◌, ℕ, zero, suc, ◌+◌, leb, ltb, eqb}
use Rattle.refusal.specs.Refusal.{first_that}
use Rattle.light_plan.specs.declared.Row.{Row}

-- a row: its first and its last median, and its threshold (RULES 18.1)
abbrev pub row : (from to threshold : ℕ) → Row
row from to threshold = record { from = from; to = to; threshold = threshold }

-- a row has a median that is from its first to its last (RULES 18.1)
unfoldable pub has : ℕ → Row → Bool
has m r = leb r.from m && leb m r.to

-- how many of the rows have a median
unfoldable pub rows_with : List Row → ℕ → ℕ
rows_with [] m = 0
rows_with (r ∷ rows) m = cond (has m r) 1 0 + rows_with rows m

-- a row's first median exceeds its last
unfoldable pub any_reversed : List Row → Bool
any_reversed [] = false
any_reversed (r ∷ rows) = ltb r.to r.from || any_reversed rows

-- p holds of a number below n
unfoldable pub any_below : ℕ → (ℕ → Bool) → Bool
any_below zero p = false
any_below (suc n) p = p n || any_below n p

-- p holds of a median, which is from 0 to 255
abbrev pub any_median : (ℕ → Bool) → Bool
any_median p = any_below 256 p

-- The first of 20, 21 and 22 that holds of so many rows, or 0 (RULES 10.1, 18.3): there are more than 16 or one is reversed (20); two rows have one
-- median (21); no row has some median (22). No rows are no plan, and are not refused (RULES 18.2). `count` is how many rows are
-- claimed: a record may claim more than the 16 that it holds, and is then refused by 20 (RULES 18.4).
unfoldable pub rows_refusal : (count : ℕ) → List Row → ℕ
rows_refusal count rows =
    cond (eqb count 0) 0
    (first_that
    ((ltb 16 count || any_reversed rows, 20)
    ∷ (any_median (λ m. ltb 1 (rows_with rows m)), 21)
    ∷ (any_median (λ m. eqb (rows_with rows m) 0), 22)
    ∷ []))

-- the threshold of a median: that of the row that has it (RULES 18.5). Of rows that are not refused just one has it; otherwise it is the first
-- one's, or 0 where there is none.
unfoldable pub threshold_at : List Row → ℕ → ℕ
threshold_at [] m = 0
threshold_at (r ∷ rows) m = cond (has m r) r.threshold (threshold_at rows m)
