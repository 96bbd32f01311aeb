-- `session::put_line` meets its contract: the four texts one after the other. Assumes nothing.
use mathlib.Core.Path.{◌≡◌, ap, ◌∙◌}
use Prim.Native.Nat.{ℕ}
use native.Mathlib.Omega.{arith}
use Rattle.std.proofs.Common.{Option}
use Rattle.timestamp.specs.declared.Timestamp.{Timestamp}
use Rattle.decimal.proofs.Writes.{wrote_next}
use Rattle.detector.specs.Answers.{answer_in}
use Rattle.session.proofs.Texts.{line-parts}
use Rattle.session.proofs.put_line.Goals as goal
use Rattle.session.proofs.put_line.Goals.{in-Ok, in-Err}

pub returns : goal.returns
returns c =
    let shown : c.match-answer.code ≡ ((answer_in c.args.answer).number, (answer_in c.args.answer).cut) =
    elim c.match-answer.branch [ in-Ok w ↦ rw w.in-Ok.is w.code-is | in-Err w ↦ rw (w.in-Err.is, ← w.number.ensures) w.code-is ] in
    let number : c.from.result ≡ (answer_in c.args.answer).number = c.from.ensures ∙ ap (λ (p : ℕ × Option Timestamp). p.0) shown in
    let cut : c.match-answer.code.1 ≡ (answer_in c.args.answer).cut = ap (λ (p : ℕ × Option Timestamp). p.1) shown in
    rw (← line-parts c.args.number (answer_in c.args.answer), ← number, ← cut)
    (wrote_next (omega arith) (wrote_next (omega arith) (wrote_next (omega arith) c.put_field.ensures c.put_field-2.ensures) c.put_cut.ensures) c.put_byte.ensures)
