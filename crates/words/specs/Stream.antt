-- What both detectors keep of the stream (`stream::Stream`), in ten words.
use Rattle.std.specs.Prelude.{Bool, ◌&&◌, List, [], ◌∷◌, ℕ, ◌%◌, leb, ltb, get_or}
use Rattle.std.specs.Float.{binary64}
use Rattle.std.specs.Float.Ieee.{to_bits}
use Rattle.score.specs.declared.Components.{Components}
use Rattle.stream.specs.declared.Stream.{Stream}
use Rattle.words.specs.Choices.{flag_word, flag_of, score_tag, score_word, score_of, components_tag, components_of, components_if}
use Rattle.stream.specs.Stream.{components_shown}

-- the word at a place
abbrev pub word_at : List ℕ → ℕ → ℕ
word_at w i = get_or w i 0

-- the words of a stream: whether there is a previous frame; tag and bits of the last score; tag and bits of the last components; width, height
unfoldable pub stream_words : Stream → List ℕ
stream_words s =
    let shown : Components = components_shown s.last_components in
    flag_word s.has_previous ∷
    score_tag s.last_score ∷
    score_word s.last_score ∷
    components_tag s.last_components ∷
    to_bits binary64 shown.delta_hue ∷
    to_bits binary64 shown.delta_sat ∷
    to_bits binary64 shown.delta_lum ∷
    to_bits binary64 shown.delta_edges ∷
    s.width ∷
    s.height ∷
    []

-- whether ten words are those of a stream: tags are 0 or 1, sides have 32 bits
unfoldable pub is_stream : List ℕ → Bool
is_stream w = leb (word_at w 0) 1 && leb (word_at w 1) 1 && leb (word_at w 3) 1 && ltb (word_at w 8) 4294967296 && ltb (word_at w 9) 4294967296

-- the stream that ten words are read as
unfoldable pub stream_of : List ℕ → Stream
stream_of w =
    record {
      has_previous = flag_of (word_at w 0);
      last_score = score_of (word_at w 1) (word_at w 2);
      last_components = components_if (flag_of (word_at w 3)) (components_of (word_at w 4) (word_at w 5) (word_at w 6) (word_at w 7));
      width = word_at w 8 % 4294967296;
      height = word_at w 9 % 4294967296;
    }
