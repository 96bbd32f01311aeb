-- The one row from 0 to 255.
use Rattle.std.proofs.Common.{◌≡◌, refl, arith, true, [], ◌∷◌, ℕ, ◌≤◌}
use Rattle.std.proofs.lemmas.Bool.Decides.{nat_tests}
use Rattle.laws.specs.Lists.{tabulate}
use Rattle.light_plan.specs.Rows.{row, has, rows_with, any_below, any_reversed, rows_refusal, threshold_at}
use Rattle.light_plan.specs.Plan.{rows_of, is_given, plan_refusal, plan_of}

-- it is a plan, is not refused, and gives its threshold to each median
pub record OneRow (t : ℕ) : Type 0 where
  pub accepted : plan_refusal (plan_of (row 0 255 t ∷ [])) ≡ 0
  pub given : is_given (plan_of (row 0 255 t ∷ [])) ≡ true
  pub threshold : (m : ℕ) → m ≤ 255 → threshold_at (rows_of (plan_of (row 0 255 t ∷ []))) m ≡ t

one_accepted : (t : ℕ) → plan_refusal (plan_of (row 0 255 t ∷ [])) ≡ 0
unfolding tabulate has rows_with any_below any_reversed rows_refusal
one_accepted t = refl

one_threshold : (t m : ℕ) → m ≤ 255 → threshold_at (rows_of (plan_of (row 0 255 t ∷ []))) m ≡ t
unfolding tabulate has threshold_at
one_threshold t m h = grind (arith, nat_tests)

pub one_row : (t : ℕ) → OneRow t
one_row t = record { accepted = one_accepted t; given = refl; threshold = one_threshold t }
