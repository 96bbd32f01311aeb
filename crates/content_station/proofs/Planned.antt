-- Settings with a light plan's text: what they give where they are accepted, and that it is what the same settings give with the plan as a record.
use mathlib.Core.Path.{◌≡◌, refl, ap, ◌∙◌, sym}
use mathlib.Core.Bool.{Bool, true, false, cond, not}
use mathlib.Core.List.{List, []}
use Prim.Native.Nat.{ℕ, ◌≤◌}
use native.Mathlib.Omega.{arith}
use native.Mathlib.Decide.{ℕ_discrete}
use borrow.Author.Tests.{eqb-true, eqb-false}
use lib.Dec.{eqb}
use lib.Ieee.{is_nan}
use lib.ListN.{length}
use Rattle.std.proofs.Common.{Option, None, Some}
use Rattle.score.specs.Settings.{settings_refusal}
use Rattle.light_plan.specs.declared.Plan.{Plan}
use Rattle.light_plan.specs.declared.Row.{Row}
use Rattle.light_plan.specs.Rows.{rows_refusal}
use Rattle.light_plan.specs.Plan.{plan_refusal, plan_of, no_plan, tidied as tidied_plan}
use Rattle.light_plan.proofs.Accepted.{accepted}
use Rattle.light_plan.proofs.Records.{rows_back, plan_tidied}
use Rattle.decimal.specs.Parts.{parted}
use Rattle.plan_text.specs.Text.{rows_read, rows_of_parts, refusal_of, or_no_rows, text_refusal, rows_in}
use Rattle.content.specs.declared.Options.{Options}
use Rattle.content.specs.Options.{with_plan, defaults, or_else, options_refusal}
use Rattle.content.specs.State.{fresh, settled}
use Rattle.content_words.specs.Record.{tidied}
use Rattle.station_answer.specs.Settings.{no_mode}
use Rattle.content_station.specs.Station.{settings_number, settled_by, planned_number, planned_by}

-- ---- a text that is not refused

few : (rows : List Row) → rows_refusal (length rows) rows ≡ 0 → length rows ≤ 16
few rows e = by-none (ℕ_discrete (length rows) 0)
  where
    by-none : Dec (length rows ≡ 0) → length rows ≤ 16
    by-none (yes n) = omega (arith, n)
    by-none (no n) = (accepted (length rows) rows e n).few

few-read : (read : Option (List Row)) → refusal_of read ≡ 0 → length (or_no_rows read) ≤ 16
few-read None e = absurd (omega arith)
few-read (Some rows) e = few rows e

-- it has at most sixteen rows
pub text-few : (text : List ℕ) → text_refusal text ≡ 0 → length (rows_in text) ≤ 16
text-few text e = few-read (rows_read text) e

plan-read : (read : Option (List Row)) → refusal_of read ≡ 0 → plan_refusal (plan_of (or_no_rows read)) ≡ 0
plan-read None e = absurd (omega arith)
plan-read (Some rows) e = ap (rows_refusal (length rows)) (rows_back rows (few rows e)) ∙ e

-- and the plan of its rows is not refused
pub text-plan : (text : List ℕ) → text_refusal text ≡ 0 → plan_refusal (plan_of (rows_in text)) ≡ 0
text-plan text e = plan-read (rows_read text) e

-- ---- settings that are not refused

both-zero : (n m : ℕ) → or_else n m ≡ 0 → (n ≡ 0) × (m ≡ 0)
both-zero n m e = by-zero (eqb n 0) refl e
  where
    by-zero : (z : Bool) → eqb n 0 ≡ z → cond z m n ≡ 0 → (n ≡ 0) × (m ≡ 0)
    by-zero true p q = (eqb-true n 0 p, q)
    by-zero false p q = absurd (eqb-false n 0 p q)

-- settings that no row refuses are settings that their own numbers do not refuse
pub first-zero : (n : ℕ) (b : Bool) → cond (not (eqb n 0)) n (cond b 15 0) ≡ 0 → n ≡ 0
first-zero n b e = by-zero (eqb n 0) refl e
  where
    by-zero : (z : Bool) → eqb n 0 ≡ z → cond (not z) n (cond b 15 0) ≡ 0 → n ≡ 0
    by-zero true p q = eqb-true n 0 p
    by-zero false p q = q

module _ (mode : ℕ) (o : Options) (text : List ℕ) where
  abbrev plan : Plan
  plan = plan_of (rows_in text)

  -- where numbers and text are not refused, the settings with the text's plan are not
  pub planned-accepted : planned_number mode o text ≡ 0 → options_refusal (with_plan o plan) ≡ 0
  planned-accepted e =
      let parts = both-zero (settings_number mode o) (text_refusal text) e in
      let own = first-zero (options_refusal o) (no_mode mode) parts.0 in
      let numbers = both-zero (settings_refusal o.weights o.kernel_size (is_nan o.threshold)) (plan_refusal o.plan) own in
      rw (numbers.0) (text-plan text parts.1)

  -- and they give what the settings give with the plan as a record
  pub planned-settled : planned_number mode o text ≡ 0 → planned_by mode o text ≡ settled (with_plan o plan)
  unfolding planned_by settled
  planned-settled e = rw (e, planned-accepted e) refl

  -- what they leave, accepted or refused, has 0 past its plan's count
  pub planned_tidied : tidied (planned_by mode o text).detector ≡ (planned_by mode o text).detector
  unfolding planned_by
  planned_tidied = by-zero (eqb (planned_number mode o text) 0) refl
    where
      by-zero : (z : Bool) → eqb (planned_number mode o text) 0 ≡ z → tidied (planned_by mode o text).detector ≡ (planned_by mode o text).detector
      by-zero true p =
          let whole = both-zero (settings_number mode o) (text_refusal text) (eqb-true _ 0 p) in
          let tidy : tidied_plan plan ≡ plan = plan_tidied (rows_in text) (text-few text whole.1) in
          rw p (ap (λ (q : Plan). fresh (with_plan o q)) tidy)
      by-zero false p = rw p refl

-- an empty text has no rows, and is not refused
no-rows : rows_read [] ≡ Some []
unfolding rows_read rows_of_parts parted
no-rows = refl

not-refused : text_refusal [] ≡ 0
unfolding rows_refusal
not-refused = ap refusal_of no-rows

or-zero : (n : ℕ) → or_else n 0 ≡ n
or-zero n = by-zero (eqb n 0) refl
  where
    by-zero : (z : Bool) → eqb n 0 ≡ z → cond z 0 n ≡ n
    by-zero true p = sym (eqb-true n 0 p)
    by-zero false p = refl

-- so it gives what the numbers alone give
pub no-text : (mode : ℕ) (o : Options) → o.plan ≡ no_plan → planned_by mode o [] ≡ settled_by mode o
unfolding planned_by settled_by
no-text mode o e =
    let number : planned_number mode o [] ≡ settings_number mode o = ap (or_else (settings_number mode o)) not-refused ∙ or-zero (settings_number mode o) in
    let same : with_plan o (plan_of (rows_in [])) ≡ o = ap (λ (read : Option (List Row)). with_plan o (plan_of (or_no_rows read))) no-rows ∙ ap (with_plan o) (sym e) in
    ap (λ (n : ℕ). record { number = n; detector = fresh (cond (eqb n 0) (with_plan o (plan_of (rows_in []))) defaults) }) number
    ∙ ap (λ (q : Options). record { number = settings_number mode o; detector = fresh (cond (eqb (settings_number mode o) 0) q defaults) }) same

-- ---- settings without a text

settled-to : (n : ℕ) (o : Options) → tidied_plan o.plan ≡ o.plan → tidied (fresh (cond (eqb n 0) o defaults)) ≡ fresh (cond (eqb n 0) o defaults)
settled-to n o e = by-zero (eqb n 0)
  where
    by-zero : (z : Bool) → tidied (fresh (cond z o defaults)) ≡ fresh (cond z o defaults)
    by-zero true = ap (λ (q : Plan). fresh (with_plan o q)) e
    by-zero false = refl

pub settled_tidied : (o : Options) → tidied_plan o.plan ≡ o.plan → tidied (settled o).detector ≡ (settled o).detector
unfolding settled
settled_tidied o e = settled-to (options_refusal o) o e

pub settled_by_tidied : (mode : ℕ) (o : Options) → tidied_plan o.plan ≡ o.plan → tidied (settled_by mode o).detector ≡ (settled_by mode o).detector
unfolding settled_by
settled_by_tidied mode o e = settled-to (settings_number mode o) o e
