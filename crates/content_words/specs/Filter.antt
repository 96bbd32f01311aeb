-- The filter of the content detector in six words.
use Rattle.std.specs.Prelude.{Bool, ◌&&◌, List, [], ◌∷◌, ℕ, leb}
use Rattle.filter.specs.declared.Filter.{Filter}
use Rattle.words.specs.Choices.{flag_word, flag_of, stamp_tag, stamp_word, stamp_of}
use Rattle.words.specs.Stream.{word_at}

-- the words of a filter: tag and stamp of the last cut (Suppress) or of the last frame above (Merge), or of the seed; whether merging is
-- enabled; whether a merge is going on; tag and stamp of the last merge's start
unfoldable pub filter_words : Filter → List ℕ
filter_words f =
    stamp_tag f.last_above ∷
    stamp_word f.last_above ∷
    flag_word f.merge_enabled ∷
    flag_word f.merge_triggered ∷
    stamp_tag f.merge_start ∷
    stamp_word f.merge_start ∷
    []

-- whether six words are those of a filter: tags are 0 or 1
unfoldable pub is_filter : List ℕ → Bool
is_filter w = leb (word_at w 0) 1 && leb (word_at w 2) 1 && leb (word_at w 3) 1 && leb (word_at w 4) 1

-- the filter that six words are read as
unfoldable pub filter_of : List ℕ → Filter
filter_of w =
    record {
      last_above = stamp_of (word_at w 0) (word_at w 1);
      merge_enabled = flag_of (word_at w 2);
      merge_triggered = flag_of (word_at w 3);
      merge_start = stamp_of (word_at w 4) (word_at w 5);
    }
