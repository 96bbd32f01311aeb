-- The light plan of the settings of a list of content calls (compare/README.md, "Lists of content calls"), by three bytes of record 0: kind is
-- r[14], a is r[1] and b is r[15].
use Rattle.std.specs.Prelude.{cond, [], ◌∷◌, ℕ, ◌+◌, ◌*◌, ◌/◌, ◌%◌, eqb, leb}
use Rattle.laws.specs.Lists.{tabulate}
use Rattle.light_plan.specs.declared.Plan.{Plan}
use Rattle.light_plan.specs.declared.Row.{Row}
use Rattle.light_plan.specs.Rows.{row}
use Rattle.light_plan.specs.Plan.{plan_of, no_plan}

-- sixteen rows of sixteen medians each: row i has the threshold (b + 17 × i) % 128
unfoldable pub sixteen_of : (b : ℕ) → Plan
sixteen_of b = plan_of (tabulate 16 (λ i. row (16 * i) (16 * i + 15) ((b + 17 * i) % 128)))

-- a plan with another count
abbrev pub counted : ℕ → Plan → Plan
counted n p = record { count = n; from = p.from; to = p.to; threshold = p.threshold }

-- a plan of one row, of two, and of three
abbrev pub one_row : Row → Plan
one_row r = plan_of (r ∷ [])

abbrev pub two_rows : Row → Row → Plan
two_rows r s = plan_of (r ∷ s ∷ [])

abbrev pub three_rows : Row → Row → Row → Plan
three_rows r s t = plan_of (r ∷ s ∷ t ∷ [])

-- a whole plan, or none: none for 0 to 3, one row for 4 and 5, two for 6, sixteen for 7
unfoldable pub whole_plan : (kind a b : ℕ) → Plan
whole_plan kind a b =
    cond (leb kind 3) no_plan
    (cond (eqb kind 4) (one_row (row 0 255 b))
    (cond (eqb kind 5) (one_row (row 0 255 (b / 4)))
    (cond (eqb kind 6) (two_rows (row (b % 255 + 1) 255 (a / 4)) (row 0 (b % 255) (a / 2))) (sixteen_of b))))

-- the plan: by kind % 128 a refused one, otherwise a whole one by kind % 8. Refused are, for 8, more than sixteen rows; for 16, a reversed row; for
-- 24, one with both other faults; for 32, one median in two rows; for 40, that and one in none; for 48 and 56, one median in none
unfoldable pub plan_by : (kind a b : ℕ) → Plan
plan_by kind a b =
    cond (eqb (kind % 128) 8) (counted (17 + b) (sixteen_of b))
    (cond (eqb (kind % 128) 16) (two_rows (row 0 255 b) (row (b / 2 + 1) (b / 2) (a / 4)))
    (cond (eqb (kind % 128) 24) (three_rows (row (b / 2 + 1) (b / 2) (a / 4)) (row 0 200 b) (row 100 254 (a / 2)))
    (cond (eqb (kind % 128) 32) (two_rows (row 0 b (a / 2)) (row b 255 (a / 4)))
    (cond (eqb (kind % 128) 40) (two_rows (row 0 (b / 2) (a / 2)) (row (b / 2) 254 (a / 4)))
    (cond (eqb (kind % 128) 48) (two_rows (row 0 (b % 254) (a / 2)) (row (b % 254 + 2) 255 (a / 4)))
    (cond (eqb (kind % 128) 56) (one_row (row (b % 2) (254 + b % 2) (a / 4))) (whole_plan (kind % 8) a b)))))))
