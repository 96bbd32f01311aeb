-- The content detector's settings and their defaults (RULES 8.1), and their refusals (RULES 10.1, 10.5).
use Rattle.std.specs.Prelude.{Bool, true, cond, ℕ, eqb, Float, None, Option}
use Rattle.std.specs.Float.Ieee.{is_nan}
use Rattle.laws.specs.Floats.{float}
use Rattle.score.specs.declared.Components.{Components}
use Rattle.score.specs.Scores.{default_weights}
use Rattle.score.specs.Settings.{settings_refusal}
use Rattle.filter.specs.declared.FilterMode.{FilterMode}
use Rattle.filter.specs.declared.FilterMode.TheVariants.{Merge}
use Rattle.filter.specs.declared.FilterOptions.{FilterOptions}
use Rattle.frame_call.specs.declared.PictureOptions.{PictureOptions}
use Rattle.light_plan.specs.declared.Plan.{Plan}
use Rattle.light_plan.specs.Plan.{no_plan, is_given, plan_refusal}
use Rattle.content.specs.declared.Options.{Options}

-- settings of these seven values
abbrev pub options : Float → ℕ → Components → FilterMode → Option ℕ → Bool → Plan → Options
options threshold minimum weights mode kernel initial plan =
    record { threshold = threshold; min_duration = minimum; weights = weights; filter_mode = mode; kernel_size = kernel; initial_cut = initial; plan = plan }

-- the settings with this plan in place of theirs
abbrev pub with_plan : Options → Plan → Options
with_plan o plan = options o.threshold o.min_duration o.weights o.filter_mode o.kernel_size o.initial_cut plan

-- the defaults: threshold 27, a minimum of one second, the default weights, Merge, k not set, `initial_cut` on, no plan (RULES 8.1)
abbrev pub defaults : Options
defaults = options (float 27) 1000000 default_weights Merge None true no_plan

-- what the filter reads of the settings (RULES 8.1)
abbrev pub filter_options : Options → FilterOptions
filter_options o = record { filter_mode = o.filter_mode; min_duration = o.min_duration; initial_cut = o.initial_cut }

-- what the detector wants of a frame's picture: that it is scored by the weights and k, and with a plan its median (RULES 18.5)
abbrev pub picture_options : Options → PictureOptions
picture_options o = record { weights = o.weights; kernel_size = o.kernel_size; wants_median = is_given o.plan }

-- the refusal of settings by the first number, or by the second where the first is 0
abbrev pub or_else : ℕ → ℕ → ℕ
or_else n m = cond (eqb n 0) m n

-- the first of the refusals 6 to 9 that holds, then of those of the plan, 20 to 22, or 0; 9 is a threshold that is NaN, also where a plan stands in its
-- place (RULES 10.1, 10.5, 18.3)
abbrev pub options_refusal : Options → ℕ
options_refusal o = or_else (settings_refusal o.weights o.kernel_size (is_nan o.threshold)) (plan_refusal o.plan)
