-- The adaptive detector's settings in twelve words, the record's version first.
use Rattle.std.specs.Prelude.{Bool, ◌&&◌, ◌||◌, List, [], ◌∷◌, ℕ, ◌%◌, leb, ltb, eqb}
use Rattle.std.specs.Float.{binary64}
use Rattle.std.specs.Float.Ieee.{to_bits, of_bits}
use Rattle.score.specs.declared.Components.{Components}
use Rattle.adaptive.specs.declared.Options.{Options}
use Rattle.adaptive.specs.Options.{options}
use Rattle.words.specs.Choices.{flag_word, flag_of, kernel_tag, kernel_word, kernel_of, components_of}
use Rattle.words.specs.Stream.{word_at}

-- the version of the record, which is the letters MWADAP01
abbrev pub adaptive_version : ℕ
adaptive_version = 0x4d57414441503031

-- the words of the settings: version, threshold, minimum, window, `min_content_val`, four weights, tag and size of the kernel, `initial_cut`
unfoldable pub options_words : Options → List ℕ
options_words o =
    let weights : Components = o.weights in
    adaptive_version ∷
    to_bits binary64 o.adaptive_threshold ∷
    o.min_duration ∷
    o.window_width ∷
    to_bits binary64 o.min_content_val ∷
    to_bits binary64 weights.delta_hue ∷
    to_bits binary64 weights.delta_sat ∷
    to_bits binary64 weights.delta_lum ∷
    to_bits binary64 weights.delta_edges ∷
    kernel_tag o.kernel_size ∷
    kernel_word o.kernel_size ∷
    flag_word o.initial_cut ∷
    []

-- whether twelve words are those of settings: the version is this one, tags are 0 or 1, the window has 32 bits, and so has a
-- set k; the word of a k that is not set is not looked at
unfoldable pub is_options : List ℕ → Bool
is_options w = eqb (word_at w 0) adaptive_version && ltb (word_at w 3) 4294967296 && leb (word_at w 9) 1 && (eqb (word_at w 9) 0 || ltb (word_at w 10) 4294967296) && leb (word_at w 11) 1

-- the settings that twelve words are read as
unfoldable pub options_of : List ℕ → Options
options_of w =
    options
    (of_bits binary64 (word_at w 1))
    (word_at w 2)
    (word_at w 3 % 4294967296)
    (of_bits binary64 (word_at w 4))
    (components_of (word_at w 5) (word_at w 6) (word_at w 7) (word_at w 8))
    (kernel_of (word_at w 9) (word_at w 10))
    (flag_of (word_at w 11))
