-- The adaptive detector's record in 288 words: settings, stream, window, the window's stamps and its scores (RULES 15.1, 15.4).
use Rattle.std.specs.Prelude.{Bool, cond, ◌&&◌, List, ◌++◌, ℕ, take, drop, None}
use Rattle.adaptive.specs.declared.Detector.{Detector}
use Rattle.adaptive.specs.Options.{defaults, options}
use Rattle.adaptive.specs.State.{fresh}
use Rattle.stream.specs.Stream.{components_shown}
use Rattle.words.specs.Stream.{stream_words, is_stream, stream_of}
use Rattle.adaptive_words.specs.Options.{options_words, is_options, options_of}
use Rattle.adaptive_words.specs.Window.{window_words, is_window, window_of, stamps_words, stamps_of, scores_words, scores_of}

-- the words of the adaptive detector's record
unfoldable pub adaptive_words : Detector → List ℕ
adaptive_words d =
    options_words d.options
    ++ (stream_words d.stream ++ (window_words d.window ++ (stamps_words d.window.stamps ++ scores_words d.window.scores)))

-- whether words are a record: the version is this one, tags are 0 or 1, and fields of 32 bits have 32 bits
unfoldable pub is_adaptive : List ℕ → Bool
is_adaptive w = is_options (take 12 w) && is_stream (take 10 (drop 12 w)) && is_window (take 8 (drop 22 w))

-- what is read where the words are not a record: the weights are zero, so that every call refuses it by 15
unfoldable pub foreign : Detector
foreign =
    fresh
    (options
    defaults.adaptive_threshold
    defaults.min_duration
    defaults.window_width
    defaults.min_content_val
    (components_shown None)
    defaults.kernel_size
    defaults.initial_cut)

-- the record that the words hold
unfoldable pub adaptive_of : List ℕ → Detector
adaptive_of w =
    cond (is_adaptive w)
    (record {
      options = options_of (take 12 w);
      stream = stream_of (take 10 (drop 12 w));
      window = window_of (take 8 (drop 22 w)) (stamps_of (take 129 (drop 30 w))) (scores_of (take 129 (drop 159 w)));
    })
    foreign
