use native.Mathlib.Omega.{arith}
use Rattle.std.proofs.Common.{rules}
use Rattle.decimal.proofs.Writes.{wrote_none, wrote_next}
use Rattle.light_plan.specs.Plan.{rows_of}
use Rattle.plan_text.specs.Text.{rows_text}
use Rattle.plan_text.proofs.Rows.{AreBytes, texts_length, all_bytes, rows_more}
use Rattle.plan_text.proofs.put_rows.Goals as goal

pub loop-i-init : goal.loop-i-init
unfolding rows_text
loop-i-init c = wrote_none _

pub put_row-requires : goal.put_row-requires
put_row-requires c =
    let A : AreBytes c.args.plan = record { from = λ i. search rules; to = λ i. search rules; threshold = λ i. search rules } in
    omega (arith, texts_length c.loop-i.i (rows_of c.args.plan) (all_bytes c.args.plan A))

pub loop-i-preserved : goal.loop-i-preserved
loop-i-preserved c = rw (rows_more c.args.plan c.loop-i.i (omega arith), ← c.row.ensures) (wrote_next (omega arith) c.loop-i.invariant c.put_row.ensures)
