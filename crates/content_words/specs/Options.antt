-- The content detector's settings but for the light plan in eleven words, the record's version first.
use Rattle.std.specs.Prelude.{Bool, true, false, ◌&&◌, ◌||◌, List, [], ◌∷◌, ℕ, leb, ltb, eqb}
use Rattle.std.specs.Float.{binary64}
use Rattle.std.specs.Float.Ieee.{to_bits, of_bits}
use Rattle.score.specs.declared.Components.{Components}
use Rattle.filter.specs.declared.FilterMode.{FilterMode}
use Rattle.filter.specs.declared.FilterMode.TheVariants.{Suppress, Merge}
use Rattle.light_plan.specs.declared.Plan.{Plan}
use Rattle.content.specs.declared.Options.{Options}
use Rattle.content.specs.Options.{options}
use Rattle.words.specs.Choices.{flag_word, flag_of, kernel_tag, kernel_word, kernel_of, components_of}
use Rattle.words.specs.Stream.{word_at}

-- the version of the record, which is the letters MWCONT02
abbrev pub content_version : ℕ
content_version = 0x4d57434f4e543032

-- the word of a filter mode: 0 for Merge, 1 for Suppress
abbrev pub mode_word : FilterMode → ℕ
mode_word Merge = 0
mode_word Suppress = 1

-- Suppress where this holds, otherwise Merge
abbrev pub mode_if : Bool → FilterMode
mode_if true = Suppress
mode_if false = Merge

-- the filter mode that a word is read as
abbrev pub mode_of : ℕ → FilterMode
mode_of w = mode_if (flag_of w)

-- the words of the settings: version, threshold, minimum, four weights, filter mode, tag and size of the kernel, `initial_cut`
unfoldable pub options_words : Options → List ℕ
options_words o =
    let weights : Components = o.weights in
    content_version ∷
    to_bits binary64 o.threshold ∷
    o.min_duration ∷
    to_bits binary64 weights.delta_hue ∷
    to_bits binary64 weights.delta_sat ∷
    to_bits binary64 weights.delta_lum ∷
    to_bits binary64 weights.delta_edges ∷
    mode_word o.filter_mode ∷
    kernel_tag o.kernel_size ∷
    kernel_word o.kernel_size ∷
    flag_word o.initial_cut ∷
    []

-- whether eleven words are those of settings: the version is this one, tags are 0 or 1, a set k has 32 bits; the word of a k that is
-- not set is not looked at
unfoldable pub is_options : List ℕ → Bool
is_options w = eqb (word_at w 0) content_version && leb (word_at w 7) 1 && leb (word_at w 8) 1 && (eqb (word_at w 8) 0 || ltb (word_at w 9) 4294967296) && leb (word_at w 10) 1

-- the settings that eleven words are read as, with this plan
unfoldable pub options_of : List ℕ → Plan → Options
options_of w plan =
    options
    (of_bits binary64 (word_at w 1))
    (word_at w 2)
    (components_of (word_at w 3) (word_at w 4) (word_at w 5) (word_at w 6))
    (mode_of (word_at w 7))
    (kernel_of (word_at w 8) (word_at w 9))
    (flag_of (word_at w 10))
    plan
