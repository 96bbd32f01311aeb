-- Small samples: what the definitions say of rows that are written out.
use Rattle.std.proofs.Common.{◌≡◌, refl, List, [], ◌∷◌, ℕ, replicate}
use Rattle.laws.specs.Lists.{tabulate}
use Rattle.light_plan.specs.declared.Row.{Row}
use Rattle.light_plan.specs.Rows.{row, has, rows_with, any_below, any_reversed, rows_refusal, threshold_at}
use Rattle.light_plan.specs.Plan.{rows_of, plan_refusal, plan_of}

-- by what the plan of these rows is refused
abbrev refused : List Row → ℕ
refused rows = plan_refusal (plan_of rows)

-- the threshold that it gives to a median
abbrev threshold : List Row → ℕ → ℕ
threshold rows m = threshold_at (rows_of (plan_of rows)) m

abbrev dim_first : List Row
dim_first = row 0 9 5 ∷ (row 10 255 30 ∷ [])

abbrev bright_first : List Row
bright_first = row 10 255 30 ∷ (row 0 9 5 ∷ [])

dim_first_accepted : refused dim_first ≡ 0
unfolding tabulate has rows_with any_below any_reversed rows_refusal
dim_first_accepted = refl

bright_first_accepted : refused bright_first ≡ 0
unfolding tabulate has rows_with any_below any_reversed rows_refusal
bright_first_accepted = refl

-- the median of a seam is of the row that ends there, and the next one of the row that begins there, in either order
dim_first_at_9 : threshold dim_first 9 ≡ 5
unfolding tabulate has threshold_at
dim_first_at_9 = refl

dim_first_at_10 : threshold dim_first 10 ≡ 30
unfolding tabulate has threshold_at
dim_first_at_10 = refl

bright_first_at_9 : threshold bright_first 9 ≡ 5
unfolding tabulate has threshold_at
bright_first_at_9 = refl

bright_first_at_10 : threshold bright_first 10 ≡ 30
unfolding tabulate has threshold_at
bright_first_at_10 = refl

-- no row has 255
hole_at_255 : refused (row 0 254 1 ∷ []) ≡ 22
unfolding tabulate has rows_with any_below any_reversed rows_refusal
hole_at_255 = refl

-- no row has 0
hole_at_0 : refused (row 1 255 1 ∷ []) ≡ 22
unfolding tabulate has rows_with any_below any_reversed rows_refusal
hole_at_0 = refl

-- two rows have 128
twice_at_128 : refused (row 0 128 1 ∷ (row 128 255 2 ∷ [])) ≡ 21
unfolding tabulate has rows_with any_below any_reversed rows_refusal
twice_at_128 = refl

-- two rows have 0, and none has 255: 21 is before 22
twice_before_missing : refused (row 0 0 1 ∷ (row 0 254 2 ∷ [])) ≡ 21
unfolding tabulate has rows_with any_below any_reversed rows_refusal
twice_before_missing = refl

-- one row is reversed, and two have each median: 20 is before 21
reversed_before_twice : refused (row 200 100 1 ∷ (row 0 255 1 ∷ (row 0 255 1 ∷ []))) ≡ 20
unfolding tabulate has rows_with any_below any_reversed rows_refusal
reversed_before_twice = refl

seventeen : refused (replicate 17 (row 0 255 1)) ≡ 20
unfolding tabulate has rows_with any_below any_reversed rows_refusal
seventeen = refl

none : refused [] ≡ 0
unfolding tabulate has rows_with any_below any_reversed rows_refusal
none = refl
