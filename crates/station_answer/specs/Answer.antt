-- The answer of a frame call in words, what they are read as, and what the readers show (RULES 15.3, 15.7 and 15.9).
use Rattle.std.specs.Prelude.{◌≡◌, cond, List, [], ◌∷◌, ℕ, ◌%◌, eqb, Float, ℤ, None, Option, Some}
use Rattle.std.specs.Float.{binary64}
use Rattle.std.specs.Float.Ieee.{to_bits}
use Rattle.laws.specs.Floats.{float}
use Rattle.timestamp.specs.declared.Timestamp.{Timestamp}
use Rattle.score.specs.declared.Components.{Components}
use Rattle.stream.specs.declared.Sums.{Sums}
use Rattle.words.specs.Choices.{stamp_tag, stamp_word, stamp_of, score_tag, score_word, score_of, components_of}
use Rattle.words.specs.Stream.{word_at}

-- the stamp of so many microseconds
abbrev pub stamp : ℤ → Timestamp
stamp z = record { micros = z }

-- thirteen words: whether there is a cut, its stamp or 0, whether there is a score, its bits or 0, the bits of the four components, and the five
-- whole numbers that these come from: the sums of hue, saturation, luma and edges, and the count (RULES 4.4)
unfoldable pub answer_words : Option Timestamp → Option Float → Components → Sums → List ℕ
answer_words cut score c sums =
    stamp_tag cut ∷
    stamp_word cut ∷
    score_tag score ∷
    score_word score ∷
    to_bits binary64 c.delta_hue ∷
    to_bits binary64 c.delta_sat ∷
    to_bits binary64 c.delta_lum ∷
    to_bits binary64 c.delta_edges ∷
    sums.hue ∷
    sums.saturation ∷
    sums.luma ∷
    sums.edges ∷
    sums.count ∷
    []

-- the cut that the words of an answer are read as, or none
abbrev pub cut_in : List ℕ → Option Timestamp
cut_in a = stamp_of (word_at a 0) (word_at a 1)

-- the score that the words of an answer are read as, or none
abbrev pub score_in : List ℕ → Option Float
score_in a = score_of (word_at a 2) (word_at a 3)

-- the four components that the words of an answer are read as
abbrev pub components_in : List ℕ → Components
components_in a = components_of (word_at a 4) (word_at a 5) (word_at a 6) (word_at a 7)

-- the four sums and the count that the words of an answer are read as, each by its low 32 bits
abbrev pub sums_in : List ℕ → Sums
sums_in a =
    record {
      hue = word_at a 8 % 4294967296;
      saturation = word_at a 9 % 4294967296;
      luma = word_at a 10 % 4294967296;
      edges = word_at a 11 % 4294967296;
      count = word_at a 12 % 4294967296;
    }

-- words that read back as this cut, this score, these components and these sums
pub record ReadAs (cut : Option Timestamp) (score : Option Float) (deltas : Components) (sums : Sums) (a : List ℕ) : Type 0 where
  pub the-cut : cut_in a ≡ cut
  pub the-score : score_in a ≡ score
  pub the-components : components_in a ≡ deltas
  pub the-sums : sums_in a ≡ sums

-- the new where the number is 0, otherwise the old: a refused call leaves everything as it was
abbrev pub after : {A : Type 0} → ℕ → A → A → A
after n new old = cond (eqb n 0) new old

-- the score, or 0.0 where there is none
abbrev pub score_shown : Option Float → Float
score_shown None = float 0
score_shown (Some x) = x

-- the component at a place: 0 is hue, 1 saturation, 2 luma, 3 edges; 0.0 at other places
unfoldable pub component_at : Components → ℕ → Float
component_at c place =
    cond (eqb place 0) c.delta_hue
    (cond (eqb place 1) c.delta_sat (cond (eqb place 2) c.delta_lum (cond (eqb place 3) c.delta_edges (float 0))))
