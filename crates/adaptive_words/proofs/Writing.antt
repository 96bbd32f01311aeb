-- Five parts written one after the other are a record's words, and they are read as that record.
use mathlib.Core.Path.{◌≡◌, refl, ap, ◌∙◌}
use mathlib.Core.Bool.{true}
use mathlib.Core.List.{List, [], ◌++◌, append-nil}
use Prim.Native.Nat.{ℕ}
use native.Mathlib.Omega.{arith}
use borrow.Rule.Slice.PartMut.{put_mid, post_of}
use lib.Ieee.{Float}
use lib.IntN.{ℤ}
use lib.ListN.{length, take, drop, length-append, drop_of_length-le}
use lib.Seq.{drop-drop}
use Rattle.laws.proofs.Joined.{first_part, skip-part, skip-put, next-put}
use Rattle.laws.proofs.Tab.{length-tabulate}
use Rattle.window.specs.declared.Window.{Window}
use Rattle.stream.specs.declared.Stream.{Stream}
use Rattle.adaptive.specs.declared.Options.{Options}
use Rattle.adaptive.specs.declared.Detector.{Detector}
use Rattle.words.specs.Stream.{stream_words, is_stream, stream_of}
use Rattle.adaptive_words.specs.Options.{options_words, is_options, options_of}
use Rattle.adaptive_words.specs.Window.{window_words, is_window, window_of, stamps_words, stamps_of, scores_words, scores_of}
use Rattle.adaptive_words.specs.Record.{adaptive_words, is_adaptive, adaptive_of}

options-length : (o : Options) → length (options_words o) ≡ 12
unfolding options_words
options-length o = refl

stream-length : (s : Stream) → length (stream_words s) ≡ 10
unfolding stream_words
stream-length s = refl

window-length : (w : Window) → length (window_words w) ≡ 8
unfolding window_words
window-length w = refl

stamps-length : (l : List ℤ) → length (stamps_words l) ≡ 129
unfolding stamps_words
stamps-length l = length-tabulate 129 _

scores-length : (l : List Float) → length (scores_words l) ≡ 129
unfolding scores_words
scores-length l = length-tabulate 129 _

-- how many words a record has
pub words_length : (d : Detector) → length (adaptive_words d) ≡ 288
unfolding adaptive_words
words_length d =
    simp length-append (omega (arith, options-length d.options, stream-length d.stream, window-length d.window, stamps-length d.window.stamps, scores-length d.window.scores))

module _ (d : Detector) (a b c s x : List ℕ)
    (ea : (a ≡ options_words d.options) × ((is_options a ≡ true) × (options_of a ≡ d.options)))
    (eb : (b ≡ stream_words d.stream) × ((is_stream b ≡ true) × (stream_of b ≡ d.stream)))
    (ec : (c ≡ window_words d.window) × ((is_window c ≡ true) × (window_of c d.window.stamps d.window.scores ≡ d.window)))
    (es : (s ≡ stamps_words d.window.stamps) × (stamps_of s ≡ d.window.stamps))
    (ex : (x ≡ scores_words d.window.scores) × (scores_of x ≡ d.window.scores)) where
  of-a : length a ≡ 12
  of-a = ap length ea.0 ∙ options-length d.options

  of-b : length b ≡ 10
  of-b = ap length eb.0 ∙ stream-length d.stream

  of_c : length c ≡ 8
  of_c = ap length ec.0 ∙ window-length d.window

  of-s : length s ≡ 129
  of-s = ap length es.0 ∙ stamps-length d.window.stamps

  of-x : length x ≡ 129
  of-x = ap length ex.0 ∙ scores-length d.window.scores

  joined : a ++ (b ++ (c ++ (s ++ x))) ≡ adaptive_words d
  unfolding adaptive_words
  joined = rw (ea.0, eb.0, ec.0, es.0, ex.0)

  -- the record is read back
  module _ (rest : List ℕ) where
    abbrev fifth : List ℕ
    fifth = x ++ rest

    abbrev fourth : List ℕ
    fourth = s ++ fifth

    abbrev third : List ℕ
    third = c ++ fourth

    abbrev second : List ℕ
    second = b ++ third

    abbrev whole : List ℕ
    whole = a ++ second

    is-a : take 12 whole ≡ a
    is-a = first_part a second 12 of-a

    is_b : take 10 (drop 12 whole) ≡ b
    is_b = skip-part a second 12 0 10 of-a ∙ first_part b third 10 of-b

    is_c : take 8 (drop 22 whole) ≡ c
    is_c = skip-part a second 12 10 8 of-a ∙ skip-part b third 10 0 8 of-b ∙ first_part c fourth 8 of_c

    is-s : take 129 (drop 30 whole) ≡ s
    is-s = skip-part a second 12 18 129 of-a ∙ skip-part b third 10 8 129 of-b ∙ skip-part c fourth 8 0 129 of_c ∙ first_part s fifth 129 of-s

    is_x : take 129 (drop 159 whole) ≡ x
    is_x =
        skip-part a second 12 147 129 of-a
        ∙ skip-part b third 10 137 129 of-b
        ∙ skip-part c fourth 8 129 129 of_c
        ∙ skip-part s fifth 129 0 129 of-s
        ∙ first_part x rest 129 of-x

    read_back : adaptive_of whole ≡ d
    unfolding adaptive_of is_adaptive
    read_back =
        rw (
          is-a,
          is_b,
          is_c,
          is-s,
          is_x,
          ea.1.0,
          eb.1.0,
          ec.1.0,
          ea.1.1,
          eb.1.1,
          es.1,
          ex.1,
          ec.1.1,
        )

  -- the parts in their places
  module _ (out p q r t u : List ℕ) (e₁ : p ≡ a) (e₂ : q ≡ b) (e₃ : r ≡ c) (e₄ : t ≡ s) (e₅ : u ≡ x) where
    abbrev after : List ℕ
    after = put_mid 159 129 (put_mid 30 129 (put_mid 22 8 (put_mid 12 10 (p ++ post_of 0 12 out) q) r) t) u

    abbrev left₁ : List ℕ
    left₁ = drop 12 out

    abbrev left₂ : List ℕ
    left₂ = drop 10 left₁

    abbrev left₃ : List ℕ
    left₃ = drop 8 left₂

    abbrev left₄ : List ℕ
    left₄ = drop 129 left₃

    put₂ : put_mid 12 10 (a ++ left₁) b ≡ a ++ (b ++ left₂)
    put₂ = next-put a left₁ 12 10 b of-a

    put₃ : put_mid 22 8 (a ++ (b ++ left₂)) c ≡ a ++ (b ++ (c ++ left₃))
    put₃ = skip-put a (b ++ left₂) 12 10 8 c of-a ∙ ap (λ (l : List ℕ). a ++ l) (next-put b left₂ 10 8 c of-b)

    put₄ : put_mid 30 129 (a ++ (b ++ (c ++ left₃))) s ≡ a ++ (b ++ (c ++ (s ++ left₄)))
    put₄ =
        skip-put a (b ++ (c ++ left₃)) 12 18 129 s of-a
        ∙ ap (λ (l : List ℕ). a ++ l) (skip-put b (c ++ left₃) 10 8 129 s of-b ∙ ap (λ (l : List ℕ). b ++ l) (next-put c left₃ 8 129 s of_c))

    put₅ : put_mid 159 129 (a ++ (b ++ (c ++ (s ++ left₄)))) x ≡ a ++ (b ++ (c ++ (s ++ (x ++ drop 129 left₄))))
    put₅ =
        skip-put a (b ++ (c ++ (s ++ left₄))) 12 147 129 x of-a
        ∙ ap (λ (l : List ℕ). a ++ l)
        (skip-put b (c ++ (s ++ left₄)) 10 137 129 x of-b
        ∙ ap (λ (l : List ℕ). b ++ l) (skip-put c (s ++ left₄) 8 129 129 x of_c ∙ ap (λ (l : List ℕ). c ++ l) (next-put s left₄ 129 129 x of-s)))

    rest-is : drop 129 left₄ ≡ drop 288 out
    rest-is = rw (drop-drop 10 12 out, drop-drop 8 22 out, drop-drop 129 30 out, drop-drop 129 159 out)

    placed : after ≡ a ++ (b ++ (c ++ (s ++ (x ++ drop 288 out))))
    placed = rw (e₁, e₂, e₃, e₄, e₅, put₂, put₃, put₄, put₅, rest-is)

    pub written : length out ≡ 288 → (after ≡ adaptive_words d) × (adaptive_of after ≡ d)
    written h =
        let none : drop 288 out ≡ [] = drop_of_length-le out {i = 288} (omega (arith, h)) in
        let whole : after ≡ a ++ (b ++ (c ++ (s ++ x))) =
        placed
        ∙ ap (λ (l : List ℕ). a ++ (b ++ (c ++ (s ++ (x ++ l))))) none
        ∙ ap (λ (l : List ℕ). a ++ (b ++ (c ++ (s ++ l)))) (append-nil x) in
        (whole ∙ joined, ap adaptive_of placed ∙ read_back (drop 288 out))
