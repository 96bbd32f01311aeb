-- The settings of a list of adaptive calls, and the state that each call is handed (compare/README.md, "Lists of adaptive calls"): a part of the
-- comparison with the Rust (RULES 14.3). r[k] is byte k of the record, which for settings is record 0 and for a call its own.
use Rattle.std.specs.Prelude.{Bool, cond, ◌&&◌, List, ℕ, ◌+◌, ◌*◌, ◌/◌, ◌%◌, eqb, Float}
use Rattle.std.specs.Float.{nan, binary64}
use Rattle.std.specs.Float.Ieee.{div, sub}
use Rattle.laws.specs.Floats.{float}
use Rattle.window.specs.declared.Window.{Window}
use Rattle.adaptive.specs.declared.Options.{Options}
use Rattle.adaptive.specs.declared.Detector.{Detector}
use Rattle.adaptive.specs.Options.{options}
use Rattle.compare_lists.specs.Records.{byte_of, threshold_of, weights_of, kernel_of, minimum_of, initial_cut_of, too_high}

-- the window that is not v + 1, by v: 0 for 0, 65 for 1, 2^32 - 1 for 2, 64 for 3, otherwise v % 4 + 1
unfoldable pub odd_window : ℕ → ℕ
odd_window v = cond (eqb v 0) 0 (cond (eqb v 1) 65 (cond (eqb v 2) 4294967295 (cond (eqb v 3) 64 (v % 4 + 1))))

-- the window of a byte b: where it is odd, b / 4 + 1, which is 1 to 64; otherwise by b / 4
unfoldable pub window_of : ℕ → ℕ
window_of b = cond (eqb (b % 2) 1) (b / 4 + 1) (odd_window (b / 4))

-- the settings: the adaptive threshold by r[0] % 32, where the other one is r[1] / 64 (a fraction), the minimum, the window by r[7],
-- `min_content_val` by r[14] % 32 in the same way, where the other one is r[15] / 4 - 16 (a fraction), the weights, k and `initial_cut`
unfoldable pub settings_of : List ℕ → Options
settings_of s =
    options
    (threshold_of (byte_of s 0 0 % 32) (div binary64 (float (byte_of s 0 1)) (float 64)))
    (minimum_of s)
    (window_of (byte_of s 0 7))
    (threshold_of (byte_of s 0 14 % 32) (sub binary64 (div binary64 (float (byte_of s 0 15)) (float 4)) (float 16)))
    (weights_of s)
    (kernel_of s)
    (initial_cut_of s)

-- a call is `clear` where its kind, r[0] % 32, is 0 and b, which is r[3], is a multiple of 4
unfoldable pub is_clear : (kind b : ℕ) → Bool
is_clear kind b = eqb kind 0 && eqb (b % 4) 0

-- settings with another threshold, window or `min_content_val`
abbrev pub with_threshold : Options → Float → Options
with_threshold o x = options x o.min_duration o.window_width o.min_content_val o.weights o.kernel_size o.initial_cut

abbrev pub with_window : Options → ℕ → Options
with_window o n = options o.adaptive_threshold o.min_duration n o.min_content_val o.weights o.kernel_size o.initial_cut

abbrev pub with_content : Options → Float → Options
with_content o x = options o.adaptive_threshold o.min_duration o.window_width x o.weights o.kernel_size o.initial_cut

-- settings that are refused: for 2 a NaN threshold, for 3 a NaN `min_content_val`, for 4 a window of 0, otherwise one of 65
unfoldable pub refused_by : Options → ℕ → Options
refused_by o how =
    cond (eqb how 2) (with_threshold o nan) (cond (eqb how 3) (with_content o nan) (cond (eqb how 4) (with_window o 0) (with_window o 65)))

-- a window that counts n scores
abbrev pub counting : Window → ℕ → Window
counting w n =
    record {
      stamps = w.stamps;
      scores = w.scores;
      count = n;
      buffer_sum = w.buffer_sum;
      last_cut_ts = w.last_cut_ts;
      last_adaptive_ratio = w.last_adaptive_ratio;
      last_target_score = w.last_target_score;
    }

-- a bad record: for 0 a count of 2 × window + 2, for 1 a height of 4,097, otherwise settings that are refused
unfoldable pub spoiled_by : Detector → ℕ → Detector
spoiled_by d how =
    cond
    (eqb how 0)
    (record { options = d.options; stream = d.stream; window = counting d.window (2 * d.options.window_width + 2) })
    (cond
    (eqb how 1)
    (record { options = d.options; stream = too_high d.stream; window = d.window })
    (record { options = refused_by d.options how; stream = d.stream; window = d.window }))
