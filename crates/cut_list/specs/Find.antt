-- Reading a list (RULES 17.7 to 17.9): the stamp nearest to a given one, the stamps within a span, the clip of a stamp. A refused reader answers
-- none, 0 and 0, or 0.
use Rattle.std.specs.Prelude.{ℕ, ◌+◌, Bool, cond, ◌&&◌, List, [], ◌∷◌, eqb, ltb, ℤ, None, Option, Some}
use Rattle.std.specs.Int.Signed.{le_z}
use Rattle.timestamp.specs.Stamps.{distance}
use Rattle.cut_list.specs.Record.{Held, stamps_of, is_bad, list_number}
use Rattle.timestamp.specs.declared.Timestamp.{Timestamp}

-- ---- what a reader answers: a number, 0 or that of the refusal, and what it found

-- the nearest stamp, or none in an empty list
pub record NearestStamp : Type 0 where
  pub number : ℕ
  pub nearest : Option Timestamp

-- the stamps within a span: the place of the first, from 0, and how many there are; 0 and 0 if there is none
pub record StampsWithin : Type 0 where
  pub number : ℕ
  pub first : ℕ
  pub count : ℕ

-- the clip of a stamp: how many stamps of the list are at or before it
pub record ClipOfStamp : Type 0 where
  pub number : ℕ
  pub clip : ℕ

-- ---- nearest

-- the nearest of a stamp and those after it: a later one takes its place only if it is strictly closer, so the earlier one stays on a tie
unfoldable pub nearest_from : (t best : ℤ) → List ℤ → ℤ
nearest_from t best [] = best
nearest_from t best (x ∷ xs) = nearest_from t (cond (ltb (distance t x) (distance t best)) x best) xs

-- the nearest of rising stamps, or none of none (RULES 17.7)
unfoldable pub nearest_of : ℤ → List ℤ → Option Timestamp
nearest_of t [] = None
nearest_of t (x ∷ xs) = Some (record { micros = nearest_from t x xs })

-- the stamp of the list that is nearest to a stamp (RULES 17.7)
unfoldable pub nearest_in : Held → ℤ → NearestStamp
nearest_in h t = record { number = list_number h; nearest = cond (is_bad h) None (nearest_of t (stamps_of h)) }

-- ---- span

-- a stamp lies within the span from a to b, both ends counted (RULES 17.8)
abbrev pub within : (a b x : ℤ) → Bool
within a b x = le_z a x && le_z x b

-- how many of these stamps have the property
unfoldable pub how_many : (ℤ → Bool) → List ℤ → ℕ
how_many p [] = 0
how_many p (x ∷ xs) = cond (p x) 1 0 + how_many p xs

-- the place of the first stamp that has the property, from 0; where none has it, their number
unfoldable pub first_place : (ℤ → Bool) → List ℤ → ℕ
first_place p [] = 0
first_place p (x ∷ xs) = cond (p x) 0 (1 + first_place p xs)

-- the place of the first of these stamps within the span, or 0 if there is none (RULES 17.8)
unfoldable pub span_start : (a b : ℤ) → List ℤ → ℕ
span_start a b xs = cond (eqb (how_many (within a b) xs) 0) 0 (first_place (within a b) xs)

-- place and number of the stamps of the list within the span (RULES 17.8)
unfoldable pub span_in : Held → (a b : ℤ) → StampsWithin
span_in h a b =
    record {
      number = list_number h;
      first = cond (is_bad h) 0 (span_start a b (stamps_of h));
      count = cond (is_bad h) 0 (how_many (within a b) (stamps_of h));
    }

-- ---- clip

-- the clip of a stamp: how many of these stamps are at or before it (RULES 17.9)
unfoldable pub clip_of : ℤ → List ℤ → ℕ
clip_of t xs = how_many (λ (x : ℤ). le_z x t) xs

-- the clip of a stamp in the list (RULES 17.9)
unfoldable pub clip_in : Held → ℤ → ClipOfStamp
clip_in h t = record { number = list_number h; clip = cond (is_bad h) 0 (clip_of t (stamps_of h)) }
