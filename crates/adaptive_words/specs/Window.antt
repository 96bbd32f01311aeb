-- The adaptive detector's window: eight words, and the 129 stamps and 129 scores of its places.
use Rattle.std.specs.Prelude.{Bool, ◌&&◌, List, [], ◌∷◌, ℕ, leb, Float, ℤ, pos, get_or}
use Rattle.std.specs.Float.{nan, binary64}
use Rattle.std.specs.Float.Ieee.{to_bits, of_bits}
use Rattle.std.specs.Int.{w64}
use Rattle.std.proofs.Common.{of_z, to_z}
use Rattle.laws.specs.Lists.{tabulate}
use Rattle.window.specs.declared.Window.{Window}
use Rattle.words.specs.Choices.{stamp_tag, stamp_word, stamp_of, score_tag, score_word, score_of}
use Rattle.words.specs.Stream.{word_at}

-- the words of a window besides its places: the count; the bits of the running sum; then a tag and a value each for the last cut or the seed,
-- the last ratio and the last target score
unfoldable pub window_words : Window → List ℕ
window_words w =
    w.count ∷
    to_bits binary64 w.buffer_sum ∷
    stamp_tag w.last_cut_ts ∷
    stamp_word w.last_cut_ts ∷
    score_tag w.last_adaptive_ratio ∷
    score_word w.last_adaptive_ratio ∷
    score_tag w.last_target_score ∷
    score_word w.last_target_score ∷
    []

-- whether eight words are those of a window: tags are 0 or 1
unfoldable pub is_window : List ℕ → Bool
is_window w = leb (word_at w 2) 1 && leb (word_at w 4) 1 && leb (word_at w 6) 1

-- the window that eight words are read as, with these stamps and scores at its places
unfoldable pub window_of : List ℕ → List ℤ → List Float → Window
window_of w stamps scores =
    record {
      stamps = stamps;
      scores = scores;
      count = word_at w 0;
      buffer_sum = of_bits binary64 (word_at w 1);
      last_cut_ts = stamp_of (word_at w 2) (word_at w 3);
      last_adaptive_ratio = score_of (word_at w 4) (word_at w 5);
      last_target_score = score_of (word_at w 6) (word_at w 7);
    }

-- the words of the 129 stamps
unfoldable pub stamps_words : List ℤ → List ℕ
stamps_words l = tabulate 129 (λ i. of_z w64 (get_or l i (pos 0)))

-- the 129 stamps that words are read as
unfoldable pub stamps_of : List ℕ → List ℤ
stamps_of w = tabulate 129 (λ i. to_z w64 (word_at w i))

-- the words of the 129 scores
unfoldable pub scores_words : List Float → List ℕ
scores_words l = tabulate 129 (λ i. to_bits binary64 (get_or l i nan))

-- the 129 scores that words are read as
unfoldable pub scores_of : List ℕ → List Float
scores_of w = tabulate 129 (λ i. of_bits binary64 (word_at w i))
