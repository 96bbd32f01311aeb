-- The rule of the adaptive detector's window (RULES 9.3 to 9.10), by the branches of the Rust's `push_and_check`. A scored frame comes as its
-- stamp and its score.
use Rattle.std.specs.Prelude.{ℕ, ◌+◌, ◌*◌, min, Bool, false, cond, ◌&&◌, List, ◌++◌, leb, Float, pos, get_or, take, drop, set, replicate, None, Option, Some}
use Rattle.std.specs.Float.{nan, binary64}
use Rattle.std.specs.Float.Ieee.{add, sub, div, lt, le, is_nan}
use Rattle.laws.specs.Floats.{float}
use Rattle.timestamp.specs.declared.Timestamp.{Timestamp}
use Rattle.score.specs.Floats.{abs_of}
use Rattle.filter.specs.declared.FilterMode.TheVariants.{Suppress}
use Rattle.filter.specs.declared.FilterOptions.{FilterOptions}
use Rattle.filter.specs.declared.Filter.{Filter}
use Rattle.filter.specs.Flash.{seeded, min_length_met, cut_if}
use Rattle.window.specs.declared.WindowOptions.{WindowOptions}
use Rattle.window.specs.declared.Window.{Window}
use Rattle.window.specs.declared.WindowStep.{WindowStep}

-- a window without scores, whose distance is counted from this stamp, or from the seed if there is none
abbrev pub empty_from : Option Timestamp → Window
empty_from last =
    record {
      stamps = replicate 129 (pos 0);
      scores = replicate 129 (float 0);
      count = 0;
      buffer_sum = float 0;
      last_cut_ts = last;
      last_adaptive_ratio = None;
      last_target_score = None;
    }

-- a fresh window: 129 stamps and 129 scores, all zero, none of them counted (RULES 9.3)
unfoldable pub fresh : Window
fresh = empty_from None

-- the window stays as it is, and there is no cut
abbrev pub unchanged : Window → WindowStep
unchanged s = record { window = s; cut = None }

-- how many scores stand beside the target, both sides together: 2 × window. A full window has one more (RULES 9.3).
abbrev pub others : WindowOptions → ℕ
others o = 2 * o.window_width

-- a window that the 129 places can hold. A detector refuses other settings by 11 and other states by 15 (RULES 10.1, 10.6), so they do not come
-- here; they would be left as they are.
unfoldable pub can_hold : WindowOptions → (count : ℕ) → Bool
can_hold o count = leb o.window_width 64 && leb count (others o + 1)

-- ---- the push (RULES 9.4, 9.5); n is 2 × window, the place of the newest score in a full window

-- a full window: all n + 1 scores are there (RULES 9.3)
abbrev pub is_full : ℕ → Window → Bool
is_full n s = leb (n + 1) s.count

-- the place of the new score: the first that is free, or the last when the window is full
abbrev pub newest : ℕ → Window → ℕ
newest n s = min s.count n

-- the oldest of n + 1 is dropped: what stands at places 1 to n moves one place down; the places from n on keep what they have
unfoldable pub without_oldest : {A : Type 0} → ℕ → List A → List A
without_oldest n xs = take n (drop 1 xs) ++ drop n xs

-- a full window drops its oldest; the new one comes to place n, and the places after it keep what they have (RULES 9.4)
unfoldable pub pushed_list : {A : Type 0} → (full : Bool) (n : ℕ) → List A → A → List A
pushed_list full n xs x = set (cond full (without_oldest n xs) xs) n x

-- the running sum: the new score is added, then the oldest subtracted if the window was full; it is never summed afresh (RULES 9.5)
unfoldable pub pushed_sum : (full : Bool) (sum score oldest : Float) → Float
pushed_sum full sum score oldest = cond full (sub binary64 (add binary64 sum score) oldest) (add binary64 sum score)

-- the window after a score is pushed with its stamp; n is one less than the count of a full window (RULES 9.4)
unfoldable pub pushed : ℕ → Window → Timestamp → Float → Window
pushed n s ts x =
    record {
      stamps = pushed_list (is_full n s) (newest n s) s.stamps ts.micros;
      scores = pushed_list (is_full n s) (newest n s) s.scores x;
      count = newest n s + 1;
      buffer_sum = pushed_sum (is_full n s) s.buffer_sum x (get_or s.scores 0 nan);
      last_cut_ts = s.last_cut_ts;
      last_adaptive_ratio = s.last_adaptive_ratio;
      last_target_score = s.last_target_score;
    }

-- ---- the target of a full window (RULES 9.7 to 9.10)

-- the target's stamp: the one at place `window`, counted from 0, after the oldest is dropped (RULES 9.7). With 129 places the default of
-- `get_or` is never reached.
abbrev pub target_stamp : WindowOptions → Window → Timestamp
target_stamp o s = record { micros = get_or s.stamps o.window_width (pos 0) }

-- the target's score: the one at the same place (RULES 9.7)
abbrev pub target_score : WindowOptions → Window → Float
target_score o s = get_or s.scores o.window_width nan

-- the average of the scores but the target: (running sum - target) / (2 × window) (RULES 9.7)
unfoldable pub average : WindowOptions → (sum target : Float) → Float
average o sum target = div binary64 (sub binary64 sum target) (float (others o))

-- 1e-5, the f64 nearest to it (RULES 9.8)
abbrev pub tiny : Float
tiny = div binary64 (float 1) (float 100000)

-- the smaller of two numbers
abbrev pub min_of : Float → Float → Float
min_of x y = cond (lt x y) x y

-- a quotient, at most 255, and 255 where it is NaN (RULES 9.8)
unfoldable pub capped : Float → Float
capped q = cond (is_nan q) (float 255) (min_of q (float 255))

-- the ratio: when the average is under 1e-5 in size, 255 if the target reaches `min_content_val`, otherwise 0; when it is not, the target over
-- the average, at most 255 (RULES 9.8)
unfoldable pub ratio_of : WindowOptions → (target avg : Float) → Float
ratio_of o target avg =
    cond (lt (abs_of avg) tiny)
    (cond (le o.min_content_val target) (float 255) (float 0))
    (capped (div binary64 target avg))

-- the ratio is at or over the threshold, and the target at or over `min_content_val` (RULES 9.9)
unfoldable pub threshold_met : WindowOptions → (target ratio : Float) → Bool
threshold_met o target ratio = le o.adaptive_threshold ratio && le o.min_content_val target

-- the filter's settings by which the distance is counted, as Suppress counts it: from the last cut, or from the seed if there was no cut. The
-- seed is the target's stamp, less the minimum duration if `initial_cut` is on (RULES 9.9, 9.10).
abbrev pub suppressing : WindowOptions → FilterOptions
suppressing o = record { filter_mode = Suppress; min_duration = o.min_duration; initial_cut = o.initial_cut }

-- a filter that counts the distance from this stamp, or from the seed if there is none
abbrev pub counted_from : Option Timestamp → Filter
counted_from last = record { last_above = last; merge_enabled = false; merge_triggered = false; merge_start = None }

-- The target's ratio and score are kept. The target is a cut, at its own stamp, if the threshold is met and its stamp is at least the minimum
-- past the last cut, or past the seed if there was no cut (RULES 9.9). The seed is set at the first full window, cut or not (RULES 9.10).
unfoldable pub judged : WindowOptions → Window → WindowStep
judged o s =
    let ts : Timestamp = target_stamp o s in
    let target : Float = target_score o s in
    let ratio : Float = ratio_of o target (average o s.buffer_sum target) in
    let last : Timestamp = seeded (suppressing o) s.last_cut_ts ts in
    let cuts : Bool = threshold_met o target ratio && min_length_met (suppressing o) last ts in
    record {
      window = record {
        stamps = s.stamps;
        scores = s.scores;
        count = s.count;
        buffer_sum = s.buffer_sum;
        last_cut_ts = Some (cond cuts ts last);
        last_adaptive_ratio = Some ratio;
        last_target_score = Some target;
      };
      cut = cut_if cuts ts;
    }

-- ---- a scored frame: `push_and_check`

-- while the window is not full there is no cut, and ratio and target score stay as they are (RULES 9.6)
unfoldable pub checked : WindowOptions → Window → WindowStep
checked o s = cond (is_full (others o) s) (judged o s) (unchanged s)

-- a scored frame: its score is pushed, and if the window is then full its target is judged (RULES 9.4, 9.6). A window that the 129 places cannot
-- hold is left as it is.
unfoldable pub push_and_check : WindowOptions → Window → Timestamp → Float → WindowStep
push_and_check o s ts x = cond (can_hold o s.count) (checked o (pushed (others o) s ts x)) (unchanged s)
