-- The adaptive detector's settings and their defaults (RULES 9.1), and their refusals (RULES 10.1, 10.5).
use Rattle.std.specs.Prelude.{Bool, true, false, not, ◌||◌, [], ◌∷◌, ℕ, eqb, ltb, Float, None, Option}
use Rattle.std.specs.Float.Ieee.{is_nan}
use Rattle.laws.specs.Floats.{float}
use Rattle.refusal.specs.Refusal.{first_that}
use Rattle.score.specs.declared.Components.{Components}
use Rattle.score.specs.Scores.{default_weights}
use Rattle.score.specs.Settings.{settings_refusal}
use Rattle.frame_call.specs.declared.PictureOptions.{PictureOptions}
use Rattle.window.specs.declared.WindowOptions.{WindowOptions}
use Rattle.adaptive.specs.declared.Options.{Options}

-- settings of these seven values
abbrev pub options : Float → ℕ → ℕ → Float → Components → Option ℕ → Bool → Options
options threshold minimum width content weights kernel initial =
    record { adaptive_threshold = threshold; min_duration = minimum; window_width = width; min_content_val = content; weights = weights; kernel_size = kernel; initial_cut = initial }

-- the defaults: `adaptive_threshold` 3, a minimum of one second, window 2, `min_content_val` 15, the default weights, k not set, `initial_cut` on
-- (RULES 9.1)
abbrev pub defaults : Options
defaults = options (float 3) 1000000 2 (float 15) default_weights None true

-- what the window reads of the settings (RULES 9.1)
abbrev pub window_options : Options → WindowOptions
window_options o =
    record { adaptive_threshold = o.adaptive_threshold; min_duration = o.min_duration; window_width = o.window_width; min_content_val = o.min_content_val; initial_cut = o.initial_cut }

-- what the detector wants of a frame's picture: that it is scored by the weights and k (RULES 9.2), and no median
abbrev pub picture_options : Options → PictureOptions
picture_options o = record { weights = o.weights; kernel_size = o.kernel_size; wants_median = false }

-- the first of the refusals 6 to 9 that holds, or 0; 9 is a threshold or `min_content_val` that is NaN (RULES 10.1)
abbrev pub inner_refusal : Options → ℕ
inner_refusal o = settings_refusal o.weights o.kernel_size (is_nan o.adaptive_threshold || is_nan o.min_content_val)

-- the first refusal of settings, or 0: a window of 0 (10), one over 64 (11), then 6 to 9 (RULES 10.1, 10.5)
unfoldable pub options_refusal : Options → ℕ
options_refusal o =
    first_that ((eqb o.window_width 0, 10) ∷ (ltb 64 o.window_width, 11) ∷ (not (eqb (inner_refusal o) 0), inner_refusal o) ∷ [])
