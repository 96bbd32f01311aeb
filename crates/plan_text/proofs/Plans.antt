-- The plan that a text says, and its refusal.
use mathlib.Core.Path.{◌≡◌, refl, sym, ap, ◌∙◌}
use mathlib.Core.Bool.{Bool, true, false}
use mathlib.Core.List.{List}
use Prim.Native.Nat.{ℕ, ◌<◌}
use native.Mathlib.Omega.{arith}
use borrow.Author.Tests.{ne_eqb, lt-ltb, leb-true, leb-false}
use lib.Dec.{leb}
use lib.ListN.{length}
use Rattle.std.specs.Bool.{then_some}
use Rattle.std.proofs.Common.{Option, Some, None}
use Rattle.light_plan.specs.declared.Row.{Row}
use Rattle.light_plan.specs.declared.Plan.{Plan}
use Rattle.light_plan.specs.Rows.{rows_refusal}
use Rattle.light_plan.specs.Plan.{plan_of, plan_refusal, rows_of}
use Rattle.light_plan.proofs.Records.{rows_back}
use Rattle.plan_text.specs.Text.{rows_read, rows_in, or_no_rows, plan_if, plan_read, refusal_of, text_refusal}

too_many : (rows : List Row) → 16 < length rows → rows_refusal (length rows) rows ≡ 20
unfolding rows_refusal
too_many rows h = rw (ne_eqb (length rows) 0 (λ z. omega (arith, z)), lt-ltb 16 (length rows) h) refl

-- a text that says no plan is refused by 20
pub not_read : (text : List ℕ) → plan_read text ≡ None → text_refusal text ≡ 20
not_read text e = by-rows (rows_read text) e
  where
    by-test : (rows : List Row) (few : Bool) → leb (length rows) 16 ≡ few → then_some few (plan_of rows) ≡ None → rows_refusal (length rows) rows ≡ 20
    by-test rows true t e = cc
    by-test rows false t e = let h = leb-false (length rows) 16 t in too_many rows (omega arith)

    by-rows : (r : Option (List Row)) → plan_if r ≡ None → refusal_of r ≡ 20
    by-rows None e = refl
    by-rows (Some rows) e = by-test rows (leb (length rows) 16) refl e

-- a plan that was read has the text's rows, and is refused as they are
pub record WasRead (text : List ℕ) (p : Plan) : Type 0 where
  pub plan : p ≡ plan_of (rows_in text)
  pub refusal : plan_refusal p ≡ text_refusal text

pub was_read : (text : List ℕ) (p : Plan) → plan_read text ≡ Some p → WasRead text p
was_read text p e = let r = by-rows (rows_read text) e in record { plan = r.0; refusal = r.1 }
  where
    by-test : (rows : List Row) (few : Bool) → leb (length rows) 16 ≡ few → then_some few (plan_of rows) ≡ Some p
        → (p ≡ plan_of rows) × (plan_refusal p ≡ rows_refusal (length rows) rows)
    by-test rows true t e =
        let same : p ≡ plan_of rows = cc in
        (same, ap plan_refusal same ∙ ap (rows_refusal (length rows)) (rows_back rows (leb-true (length rows) 16 t)))
    by-test rows false t e = cc

    by-rows : (r : Option (List Row)) → plan_if r ≡ Some p → (p ≡ plan_of (or_no_rows r)) × (plan_refusal p ≡ refusal_of r)
    by-rows None e = cc
    by-rows (Some rows) e = by-test rows (leb (length rows) 16) refl e

-- and holds the text's rows
pub rows_held : (text : List ℕ) (p : Plan) → plan_read text ≡ Some p → rows_read text ≡ Some (rows_of p)
rows_held text p e = by-rows (rows_read text) e
  where
    by-test : (rows : List Row) (few : Bool) → leb (length rows) 16 ≡ few → then_some few (plan_of rows) ≡ Some p → rows_of p ≡ rows
    by-test rows true t e = let same : p ≡ plan_of rows = cc in ap rows_of same ∙ rows_back rows (leb-true (length rows) 16 t)
    by-test rows false t e = cc

    by-rows : (r : Option (List Row)) → plan_if r ≡ Some p → r ≡ Some (rows_of p)
    by-rows None e = cc
    by-rows (Some rows) e = ap Some (sym (by-test rows (leb (length rows) 16) refl e))
