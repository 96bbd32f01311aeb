-- Four parts written one after the other are a record's words, and they are read as that record.
use mathlib.Core.Path.{◌≡◌, refl, ap, ◌∙◌}
use mathlib.Core.Bool.{true}
use mathlib.Core.List.{List, [], ◌++◌, append-nil}
use Prim.Native.Nat.{ℕ}
use native.Mathlib.Omega.{arith}
use borrow.Rule.Slice.PartMut.{put_mid, post_of}
use lib.ListN.{length, take, drop, drop_of_length-le}
use lib.Seq.{drop-drop}
use Rattle.laws.proofs.Joined.{first_part, skip-part, skip-put, next-put}
use Rattle.light_plan.specs.declared.Plan.{Plan}
use Rattle.light_plan.specs.Plan.{tidied as tidied_plan}
use Rattle.filter.specs.declared.Filter.{Filter}
use Rattle.stream.specs.declared.Stream.{Stream}
use Rattle.content.specs.declared.Options.{Options}
use Rattle.content.specs.declared.Detector.{Detector}
use Rattle.content.specs.Options.{options}
use Rattle.words.specs.Stream.{stream_words, is_stream, stream_of}
use Rattle.content_words.specs.Options.{options_words, is_options, options_of}
use Rattle.content_words.specs.Filter.{filter_words, is_filter, filter_of}
use Rattle.content_words.specs.Plan.{plan_words, is_plan, plan_of_words}
use Rattle.content_words.specs.Record.{content_words, is_content, content_of, tidied}

options-length : (o : Options) → length (options_words o) ≡ 11
unfolding options_words
options-length o = refl

stream-length : (s : Stream) → length (stream_words s) ≡ 10
unfolding stream_words
stream-length s = refl

filter-length : (f : Filter) → length (filter_words f) ≡ 6
unfolding filter_words
filter-length f = refl

plan-length : (p : Plan) → length (plan_words p) ≡ 7
unfolding plan_words
plan-length p = refl

-- how many words a record has
pub words_length : (d : Detector) → length (content_words d) ≡ 34
unfolding content_words options_words stream_words filter_words plan_words
words_length d = refl

module _ (d : Detector) (a b c x : List ℕ)
    (o : (a ≡ options_words d.options) × ((is_options a ≡ true) × (options_of a d.options.plan ≡ d.options)))
    (s : (b ≡ stream_words d.stream) × ((is_stream b ≡ true) × (stream_of b ≡ d.stream)))
    (f : (c ≡ filter_words d.filter) × ((is_filter c ≡ true) × (filter_of c ≡ d.filter)))
    (p : (x ≡ plan_words d.options.plan) × ((is_plan x ≡ true) × (plan_of_words x ≡ tidied_plan d.options.plan))) where
  of-a : length a ≡ 11
  of-a = ap length o.0 ∙ options-length d.options

  of-b : length b ≡ 10
  of-b = ap length s.0 ∙ stream-length d.stream

  of_c : length c ≡ 6
  of_c = ap length f.0 ∙ filter-length d.filter

  of_x : length x ≡ 7
  of_x = ap length p.0 ∙ plan-length d.options.plan

  joined : a ++ (b ++ (c ++ x)) ≡ content_words d
  unfolding content_words
  joined = rw (o.0, s.0, f.0, p.0)

  -- the settings are read back with the plan that is read
  with-plan : (q : Plan)
      → options_of a q ≡ options d.options.threshold d.options.min_duration d.options.weights d.options.filter_mode d.options.kernel_size d.options.initial_cut q
  unfolding options_of
  with-plan q = ap (λ (v : Options). options v.threshold v.min_duration v.weights v.filter_mode v.kernel_size v.initial_cut q) o.1.1

  -- the record is read back
  module _ (rest : List ℕ) where
    abbrev third : List ℕ
    third = c ++ (x ++ rest)

    abbrev second : List ℕ
    second = b ++ third

    abbrev whole : List ℕ
    whole = a ++ second

    is-a : take 11 whole ≡ a
    is-a = first_part a second 11 of-a

    is_b : take 10 (drop 11 whole) ≡ b
    is_b = skip-part a second 11 0 10 of-a ∙ first_part b third 10 of-b

    is_c : take 6 (drop 21 whole) ≡ c
    is_c = skip-part a second 11 10 6 of-a ∙ skip-part b third 10 0 6 of-b ∙ first_part c (x ++ rest) 6 of_c

    is_x : take 7 (drop 27 whole) ≡ x
    is_x =
        skip-part a second 11 16 7 of-a
        ∙ skip-part b third 10 6 7 of-b
        ∙ skip-part c (x ++ rest) 6 0 7 of_c
        ∙ first_part x rest 7 of_x

    read_back : content_of whole ≡ tidied d
    unfolding content_of is_content
    read_back = rw (is-a, is_b, is_c, is_x, o.1.0, s.1.0, f.1.0, p.1.0, p.1.1, with-plan (tidied_plan d.options.plan), s.1.1, f.1.1)

  -- the parts in their places
  module _ (out q r t u : List ℕ) (e₁ : q ≡ a) (e₂ : r ≡ b) (e₃ : t ≡ c) (e₄ : u ≡ x) where
    abbrev after : List ℕ
    after = put_mid 27 7 (put_mid 21 6 (put_mid 11 10 (q ++ post_of 0 11 out) r) t) u

    abbrev left₁ : List ℕ
    left₁ = drop 11 out

    abbrev left₂ : List ℕ
    left₂ = drop 10 left₁

    abbrev left₃ : List ℕ
    left₃ = drop 6 left₂

    put₂ : put_mid 11 10 (a ++ left₁) b ≡ a ++ (b ++ left₂)
    put₂ = next-put a left₁ 11 10 b of-a

    put₃ : put_mid 21 6 (a ++ (b ++ left₂)) c ≡ a ++ (b ++ (c ++ left₃))
    put₃ = skip-put a (b ++ left₂) 11 10 6 c of-a ∙ ap (λ (l : List ℕ). a ++ l) (next-put b left₂ 10 6 c of-b)

    put₄ : put_mid 27 7 (a ++ (b ++ (c ++ left₃))) x ≡ a ++ (b ++ (c ++ (x ++ drop 7 left₃)))
    put₄ =
        skip-put a (b ++ (c ++ left₃)) 11 16 7 x of-a
        ∙ ap (λ (l : List ℕ). a ++ l) (skip-put b (c ++ left₃) 10 6 7 x of-b ∙ ap (λ (l : List ℕ). b ++ l) (next-put c left₃ 6 7 x of_c))

    rest-is : drop 7 left₃ ≡ drop 34 out
    rest-is = rw (drop-drop 10 11 out, drop-drop 6 21 out, drop-drop 7 27 out)

    placed : after ≡ a ++ (b ++ (c ++ (x ++ drop 34 out)))
    placed = rw (e₁, e₂, e₃, e₄, put₂, put₃, put₄, rest-is)

    pub written : length out ≡ 34 → (after ≡ content_words d) × (content_of after ≡ tidied d)
    written h =
        let none : drop 34 out ≡ [] = drop_of_length-le out {i = 34} (omega (arith, h)) in
        let whole : after ≡ a ++ (b ++ (c ++ x)) =
        placed ∙ ap (λ (l : List ℕ). a ++ (b ++ (c ++ (x ++ l)))) none ∙ ap (λ (l : List ℕ). a ++ (b ++ (c ++ l))) (append-nil x) in
        (whole ∙ joined, ap content_of placed ∙ read_back (drop 34 out))
