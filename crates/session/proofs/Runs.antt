-- The whole session: feeding all of the input and then its end bring the lines' answers.
use mathlib.Core.Path.{◌≡◌, refl, sym, ap, ◌∙◌}
use mathlib.Core.List.{List, ◌++◌}
use Prim.Native.Nat.{ℕ, ◌≤◌}
use native.Mathlib.Omega.{arith}
use lib.ListN.{length, take, drop, take-append-drop, length-append}
use lib.Seq.{take_all}
use Rattle.decimal.specs.declared.Writer.{Writer}
use Rattle.decimal.specs.Placed.{Wrote}
use Rattle.decimal.proofs.Writes.{wrote_next}
use Rattle.session.specs.Output.{header, start, lines, answers, output}
use Rattle.session.specs.Feeding.{State, fed, fed_text, last_text, fresh}
use Rattle.session.specs.Promises.{Takes}
use Rattle.session.proofs.Chunks.{text-append}
use Rattle.session.proofs.Theorem.{all_lines}

-- some of the input has no more text than all of it
some-text : (s : State) (input : List ℕ) (t : ℕ) → length (fed_text s (take t input)) ≤ length (fed_text s input)
some-text s input t =
    let x = take t input in
    let y = drop t input in
    let e : fed_text s input ≡ fed_text s x ++ fed_text (fed s x) y = ap (fed_text s) (sym (take-append-drop t input)) ∙ text-append s x y in
    omega (arith, ap length e, length-append (fed_text s x) (fed_text (fed s x) y))

module _ (input : List ℕ) (w w₁ w₂ : Writer) (s : State) (t : ℕ) (begins : w.at ≡ 0) (H : Wrote w header w₁) (T : Takes fresh input w₁ s w₂ t) where
  -- what was written is no longer than the output
  pub short : w₂.at ≤ length (output input)
  unfolding output
  short =
      omega
      (arith, begins, H.place, T.text.place, some-text fresh input t, length-append header (answers start (lines input)), ap length (all_lines input), length-append (fed_text fresh input) (last_text (fed fresh input)))

  -- all of it, and the end
  pub runs-all : (w₃ : Writer) → length input ≤ t → 17 ≤ length w.out.now → Wrote w₂ (last_text s) w₃ → Wrote w (output input) w₃
  unfolding output
  runs-all w₃ all room L =
      let whole : take t input ≡ input = take_all t input all in
      let last : last_text s ≡ last_text (fed fresh input) = ap last_text (T.state ∙ rw whole refl) in
      let text : Wrote w₁ (fed_text fresh input ++ last_text (fed fresh input)) w₃ = wrote_next (omega (arith, H.place, H.size, begins, room)) (rw whole at T.text) (rw last at L) in
      wrote_next (omega (arith, begins)) H (rw (all_lines input) at text)
