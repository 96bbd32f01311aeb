-- `plan_text::write` meets its contract: what it wrote reads back. Assumes nothing.
use mathlib.Core.Path.{ap, ◌∙◌}
use Rattle.std.proofs.Common.{rules}
use Rattle.light_plan.specs.Plan.{rows_of}
use Rattle.plan_text.specs.Text.{rows_read, plan_read}
use Rattle.plan_text.proofs.Rows.{AreBytes, all_bytes, placed_first}
use Rattle.plan_text.proofs.Back.{text_back, plan_back}
use Rattle.plan_text.proofs.write.Goals as goal

pub returns-clause-back : goal.returns-clause-back
returns-clause-back c =
    let A : AreBytes c.args.plan = record { from = λ i. search rules; to = λ i. search rules; threshold = λ i. search rules } in
    ap rows_read (placed_first _ _ _ _ c.put_rows.ensures.memory c.put_rows.ensures.place) ∙ text_back (rows_of c.args.plan) (all_bytes c.args.plan A)

pub returns-clause-plan_back : goal.returns-clause-plan_back
returns-clause-plan_back c few =
    let A : AreBytes c.args.plan = record { from = λ i. search rules; to = λ i. search rules; threshold = λ i. search rules } in
    ap plan_read (placed_first _ _ _ _ c.put_rows.ensures.memory c.put_rows.ensures.place)
    ∙ plan_back c.args.plan A few (search rules) (search rules) (search rules)
