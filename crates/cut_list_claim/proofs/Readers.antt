-- The readers of a list that is not bad agree with each other (RULES 17.13). Assumes nothing else.
use Rattle.std.proofs.Common.{None, Option, Some}
use Prim.Native.Nat.{ℕ, ◌≤◌, ◌<◌}
use native.Mathlib.Omega.{arith}
use native.Mathlib.Decide.{dec_lt}
use mathlib.Core.Path.{◌≡◌, refl, sym, ◌∙◌, subst}
use mathlib.Core.Bool.{Bool, true, false, cond, ◌||◌}
use mathlib.Core.List.{List, [], ◌∷◌}
use lib.Dec.{ltb}
use lib.IntN.{ℤ}
use lib.Signed.{◌≤ℤ◌, ≤ℤ_refl}
use borrow.Author.Tests.{ltb-true, ltb-false}
use Rattle.laws.specs.Lists.{All}
use Rattle.laws.proofs.Bools.{or-right-true}
use Rattle.laws.proofs.Whole.{le_read, le-make, le-lt_z}
use Rattle.timestamp.specs.declared.Timestamp.{Timestamp}
use Rattle.timestamp.specs.Stamps.{distance}
use Rattle.cut_list.specs.Record.{Held, stamps_of, in_order, is_bad}
use Rattle.cut_list.specs.Change.{same, any_of}
use Rattle.cut_list.specs.Find.{nearest_from, nearest_of, nearest_in, span_in, clip_of, clip_in}
use Rattle.cut_list.proofs.Tests.{Past, same_refl}
use Rattle.cut_list.proofs.Walks.{nearer_of}
use Rattle.cut_list.proofs.Order.{before, none_before}
use Rattle.cut_list.proofs.Spans.{Within, span-some, span_none}
use Rattle.cut_list.proofs.Brought.{sound}
use Rattle.cut_list_claim.specs.Claim.{ReadersAgree}
use Rattle.cut_list_claim.proofs.Order.{Sorted}
use Rattle.cut_list_claim.proofs.Steps.{sorted}

-- ---- span and clip

-- the span from the first of ordered stamps to t starts at the first place, and has as many members as the clip of t
from_first : (d : ℕ) (t x : ℤ) (xs : List ℤ) → in_order d (x ∷ xs) ≡ true → Within x t (x ∷ xs) 0 (clip_of t (x ∷ xs))
from_first d t x xs ordered = by (dec_lt 0 (clip_of t (x ∷ xs)))
  where
    none : before x (x ∷ xs) ≡ 0
    none = none_before d x x xs ordered (le-lt_z x x (omega arith))

    by : Dec (0 < clip_of t (x ∷ xs)) → Within x t (x ∷ xs) 0 (clip_of t (x ∷ xs))
    by (yes some) =
        let w = span-some d x t (x ∷ xs) ordered (omega (arith, none)) in
        record { start = w.start ∙ none; number = omega (arith, w.number, none) }
    by (no empty) =
        let w = span_none x t (x ∷ xs) (omega (arith, empty)) in
        record { start = w.start; number = omega (arith, w.number, empty) }

-- ---- nearest

-- a stamp was found
abbrev Found : Option Timestamp → Type 0
Found None = ⊥
Found (Some s) = Unit {0}

at-or-before : {d : ℕ} (n x y : ℤ) → n ≤ℤ x → Past d x y → n ≤ℤ y
at-or-before n x y h p = le-make {a = n} {b = y} (omega (arith, le_read {a = n} {b = x} h, p.later))

module _ (t : ℤ) where
  -- it is one of them
  from-is-in : (best : ℤ) (xs : List ℤ) → any_of (same (nearest_from t best xs)) (best ∷ xs) ≡ true
  unfolding nearest_from any_of
  from-is-in best [] = rw (same_refl best)
  from-is-in best (x ∷ xs) = by (ltb (distance t x) (distance t best)) (from-is-in (nearer_of t best x) xs)
    where
      skip : (a b c : Bool) → (a || c) ≡ true → (a || (b || c)) ≡ true
      skip true b c e = refl
      skip false true c e = refl
      skip false false c e = e

      by : (b : Bool) → let n : ℤ = nearest_from t (cond b x best) xs in (same n (cond b x best) || any_of (same n) xs) ≡ true
          → (same n best || (same n x || any_of (same n) xs)) ≡ true
      by true ih = let n = nearest_from t x xs in or-right-true (same n best) (same n x || any_of (same n) xs) ih
      by false ih = let n = nearest_from t best xs in skip (same n best) (same n x) (any_of (same n) xs) ih

  -- none is closer
  from-is-least : (best : ℤ) (xs : List ℤ) → All (λ (x : ℤ). distance t (nearest_from t best xs) ≤ distance t x) (best ∷ xs)
  unfolding nearest_from
  from-is-least best [] = (omega arith, tt)
  from-is-least best (x ∷ xs) = by (ltb (distance t x) (distance t best)) refl (from-is-least (nearer_of t best x) xs)
    where
      by : (b : Bool) → ltb (distance t x) (distance t best) ≡ b
          → let n : ℤ = nearest_from t (cond b x best) xs in All (λ (y : ℤ). distance t n ≤ distance t y) (cond b x best ∷ xs)
          → All (λ (y : ℤ). distance t n ≤ distance t y) (best ∷ x ∷ xs)
      by true q ih = (omega (arith, ltb-true (distance t x) (distance t best) q, ih.0), (ih.0, ih.1))
      by false q ih = (ih.0, (omega (arith, ltb-false (distance t x) (distance t best) q, ih.0), ih.1))

  -- of those as close it is the earliest
  from-is-earliest : (d : ℕ) (best : ℤ) (xs : List ℤ) → Sorted d (best ∷ xs)
      → let n : ℤ = nearest_from t best xs in All (λ (x : ℤ). distance t n ≡ distance t x → n ≤ℤ x) (best ∷ xs)
  unfolding nearest_from
  from-is-earliest d best [] s = ((λ _. ≤ℤ_refl best), tt)
  from-is-earliest d best (x ∷ xs) s =
      by (ltb (distance t x) (distance t best)) refl (from-is-least (nearer_of t best x) xs).0 (from-is-earliest d (nearer_of t best x) xs)
    where
      by : (b : Bool) → ltb (distance t x) (distance t best) ≡ b
          → let n : ℤ = nearest_from t (cond b x best) xs in distance t n ≤ distance t (cond b x best)
          → (Sorted d (cond b x best ∷ xs) → All (λ (y : ℤ). distance t n ≡ distance t y → n ≤ℤ y) (cond b x best ∷ xs))
          → All (λ (y : ℤ). distance t n ≡ distance t y → n ≤ℤ y) (best ∷ x ∷ xs)
      by true q least ih = ((λ tie. absurd (omega (arith, ltb-true (distance t x) (distance t best) q, tie))), ih s.1)
      by false q least ih =
          let rest = ih (s.0.1, s.1.1) in
          let no-closer = ltb-false (distance t x) (distance t best) q in
          (rest.0, (λ tie. at-or-before (nearest_from t best xs) best x (rest.0 (omega (arith, tie))) s.0.0, rest.1))

  -- what holds of the nearest of ordered stamps
  record IsNearest (xs : List ℤ) (n : ℤ) : Type 0 where
    is-in : any_of (same n) xs ≡ true
    least : All (λ (x : ℤ). distance t n ≤ distance t x) xs
    earliest : All (λ (x : ℤ). distance t n ≡ distance t x → n ≤ℤ x) xs

  nearest-is : (d : ℕ) (xs : List ℤ) (s : Timestamp) → Sorted d xs → nearest_of t xs ≡ Some s → IsNearest xs s.micros
  unfolding nearest_of
  nearest-is d [] s o e = absurd (subst Found (sym e) tt)
  nearest-is d (x ∷ xs) s o e =
      let n : nearest_from t x xs ≡ s.micros = cc in
      rw (← n) (record { is-in = from-is-in x xs; least = from-is-least x xs; earliest = from-is-earliest d x xs o })

-- ---- the readers of a list that is not bad

module _ (h : Held) (fine : is_bad h ≡ false) (t : ℤ) where
  span-from : (x : ℤ) (xs : List ℤ) → stamps_of h ≡ x ∷ xs → Within x t (stamps_of h) 0 (clip_of t (stamps_of h))
  span-from x xs e = rw e (from_first h.list.min_duration t x xs (rw e at (sound h fine).ordered))

  span-is-clip : (x : ℤ) (xs : List ℤ) → stamps_of h ≡ x ∷ xs → (span_in h x t).count ≡ (clip_in h t).clip
  unfolding span_in clip_in
  span-is-clip x xs e = rw fine (span-from x xs e).number

  span-starts : (x : ℤ) (xs : List ℤ) → stamps_of h ≡ x ∷ xs → (span_in h x t).first ≡ 0
  unfolding span_in
  span-starts x xs e = rw fine (span-from x xs e).start

  nearest-is-there : (x : ℤ) (xs : List ℤ) → stamps_of h ≡ x ∷ xs → (s : Timestamp) × ((nearest_in h t).nearest ≡ Some s)
  unfolding nearest_in nearest_of
  nearest-is-there x xs e = (record { micros = nearest_from t x xs }, rw (fine, e) refl)

  nearest-found : (s : Timestamp) → (nearest_in h t).nearest ≡ Some s → IsNearest t (stamps_of h) s.micros
  unfolding nearest_in
  nearest-found s e = nearest-is t h.list.min_duration (stamps_of h) s (sorted h (sound h fine)) (rw fine at e)

pub readers-agree : (h : Held) → is_bad h ≡ false → (t : ℤ) → ReadersAgree h t
readers-agree h fine t =
    record {
      span-is-clip = span-is-clip h fine t;
      span-starts = span-starts h fine t;
      nearest-is-there = nearest-is-there h fine t;
      nearest-is-in = λ s e. (nearest-found h fine t s e).is-in;
      nearest-is-least = λ s e. (nearest-found h fine t s e).least;
      earliest-on-tie = λ s e. (nearest-found h fine t s e).earliest;
    }
