-- The settings of a list of content calls, and the state that each call is handed (compare/README.md, "Lists of content calls"): a part of the
-- comparison with the Rust (RULES 14.3). r[k] is byte k of the record, which for settings is record 0 and for a call its own.
use Rattle.std.specs.Prelude.{true, cond, List, ℕ, ◌%◌, eqb, None}
use Rattle.std.specs.Float.{nan, binary64}
use Rattle.std.specs.Float.Ieee.{div}
use Rattle.laws.specs.Floats.{float}
use Rattle.filter.specs.declared.Filter.{Filter}
use Rattle.filter.specs.declared.FilterMode.{FilterMode}
use Rattle.filter.specs.declared.FilterMode.TheVariants.{Suppress, Merge}
use Rattle.content.specs.declared.Options.{Options}
use Rattle.content.specs.declared.Detector.{Detector}
use Rattle.content.specs.Options.{options, with_plan}
use Rattle.light_plan.specs.Rows.{row}
use Rattle.compare_content_lists.specs.Plans.{plan_by, one_row, counted}
use Rattle.compare_lists.specs.Records.{byte_of, threshold_of, weights_of, kernel_of, minimum_of, initial_cut_of, too_high}

-- the filter mode of a byte b: Suppress where it is even, otherwise Merge
unfoldable pub mode_of : ℕ → FilterMode
mode_of b = cond (eqb (b % 2) 0) Suppress Merge

-- the settings: the threshold by r[0] % 32, where the other one is r[1] / 4 (a fraction), the minimum, the weights, the filter mode by r[7], k,
-- `initial_cut` and the light plan by r[14], r[1] and r[15]
unfoldable pub settings_of : List ℕ → Options
settings_of s =
    options
    (threshold_of (byte_of s 0 0 % 32) (div binary64 (float (byte_of s 0 1)) (float 4)))
    (minimum_of s)
    (weights_of s)
    (mode_of (byte_of s 0 7))
    (kernel_of s)
    (initial_cut_of s)
    (plan_by (byte_of s 0 14) (byte_of s 0 1) (byte_of s 0 15))

-- a merge that is triggered without its start
abbrev pub triggered_of : Filter → Filter
triggered_of f = record { last_above = f.last_above; merge_enabled = f.merge_enabled; merge_triggered = true; merge_start = None }

-- a threshold that is NaN
abbrev pub without_threshold : Options → Options
without_threshold o = options nan o.min_duration o.weights o.filter_mode o.kernel_size o.initial_cut o.plan

-- a state with other settings
abbrev pub with_options : Detector → Options → Detector
with_options d o = record { options = o; stream = d.stream; filter = d.filter }

-- a bad record: for 0 a merge that is triggered without its start, for 1 a height of 4,097, for 2 a threshold that is NaN, for 3 a plan of 17 rows,
-- otherwise a plan without the median 255
unfoldable pub spoiled_by : Detector → ℕ → Detector
spoiled_by d how =
    cond
    (eqb how 0)
    (record { options = d.options; stream = d.stream; filter = triggered_of d.filter })
    (cond
    (eqb how 1)
    (record { options = d.options; stream = too_high d.stream; filter = d.filter })
    (cond
    (eqb how 2)
    (with_options d (without_threshold d.options))
    (cond
    (eqb how 3)
    (with_options d (with_plan d.options (counted 17 d.options.plan)))
    (with_options d (with_plan d.options (one_row (row 0 254 0)))))))
