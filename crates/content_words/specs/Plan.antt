-- The light plan of the content detector in seven words: its count, and three arrays of sixteen bytes, each as two words (RULES 15.4, 18.7).
use Rattle.std.specs.Prelude.{Bool, List, [], ◌∷◌, ◌++◌, ℕ, ◌%◌, ltb, take, drop}
use Rattle.std.specs.Int.{w64, to_le_bytes, from_le_bytes}
use Rattle.light_plan.specs.declared.Plan.{Plan}
use Rattle.light_plan.specs.Plan.{tidied}
use Rattle.words.specs.Stream.{word_at}

-- the words of the first eight and of the last eight of sixteen bytes; the first byte of a word is its lowest
abbrev pub first_word : List ℕ → ℕ
first_word bytes = from_le_bytes w64 (take 8 bytes)

abbrev pub second_word : List ℕ → ℕ
second_word bytes = from_le_bytes w64 (drop 8 bytes)

-- the sixteen bytes that two words are read as
abbrev pub bytes_of : (first second : ℕ) → List ℕ
bytes_of first second = to_le_bytes w64 first ++ to_le_bytes w64 second

-- the words of a plan: the count; then two words each for the rows' first medians, their last medians and their thresholds. What stands past the
-- count is written as 0.
unfoldable pub plan_words : Plan → List ℕ
plan_words p =
    let t : Plan = tidied p in
    t.count ∷
    first_word t.from ∷
    second_word t.from ∷
    first_word t.to ∷
    second_word t.to ∷
    first_word t.threshold ∷
    second_word t.threshold ∷
    []

-- whether seven words are those of a plan: the count has 32 bits. A count over 16 does, and is refused as a plan.
unfoldable pub is_plan : List ℕ → Bool
is_plan w = ltb (word_at w 0) 4294967296

-- the plan that seven words are read as; what stands past the count is not looked at, and is read as 0
unfoldable pub plan_of_words : List ℕ → Plan
plan_of_words w =
    tidied
    (record {
      count = word_at w 0 % 4294967296;
      from = bytes_of (word_at w 1) (word_at w 2);
      to = bytes_of (word_at w 3) (word_at w 4);
      threshold = bytes_of (word_at w 5) (word_at w 6);
    })
