-- What the content detector answers to an accepted frame, by the frame's result, and to any call (RULES 8.4 to 8.6).
use Rattle.std.specs.Prelude.{ℕ, Float, None, Option, Some}
use Rattle.std.specs.Float.Ieee.{le}
use Rattle.laws.specs.Floats.{float}
use Rattle.timestamp.specs.declared.Timestamp.{Timestamp}
use Rattle.stream.specs.Stream.{components_shown}
use Rattle.light_plan.specs.Plan.{rows_of}
use Rattle.light_plan.specs.Rows.{threshold_at}
use Rattle.filter.specs.declared.Filter.{Filter}
use Rattle.filter.specs.declared.FilterStep.{FilterStep}
use Rattle.filter.specs.Flash.{fresh as fresh_filter, flash_filter}
use Rattle.frame_call.specs.Call.{PictureAnswer, Call, Outcome, outcome_of}
use Rattle.content.specs.declared.Options.{Options}
use Rattle.content.specs.declared.Detector.{Detector}
use Rattle.content.specs.Options.{filter_options, picture_options}
use Rattle.content.specs.State.{Answer, bad_state, refused_answer, cleared_answer}

-- the threshold of a frame: without a plan, where no median is wanted, the set one; with a plan that of the row that has the frame's luma median
-- (RULES 18.5)
abbrev pub frame_threshold : Options → (median : Option ℕ) → Float
frame_threshold o None = o.threshold
frame_threshold o (Some m) = float (threshold_at (rows_of o.plan) m)

-- A frame with a score goes to the filter, and it is above when its score is at or over its threshold (RULES 6.7). The first frame of a
-- stretch, which has none, gives no cut and leaves a fresh filter, not yet seeded (RULES 6.5, 8.5).
abbrev pub filter_step : Options → Filter → Timestamp → Option Float → (median : Option ℕ) → FilterStep
filter_step o φ ts None median = record { filter = fresh_filter; cut = None }
filter_step o φ ts (Some x) median = flash_filter (filter_options o) φ ts (le (frame_threshold o median) x)

-- the answer to an accepted frame, by its stamp, its sums and the stream after it: 0, the new state, the cut or none, the score or none, the
-- components and the sums (RULES 8.4). Settings are the record's own (RULES 8.6).
unfoldable pub stepped : Detector → Timestamp → PictureAnswer → Answer
stepped d ts p =
    let step : FilterStep = filter_step d.options d.filter ts p.stream.last_score p.median in
    let after : Detector = record { options = d.options; stream = p.stream; filter = step.filter } in
    record { number = 0; detector = after; cut = step.cut; score = p.stream.last_score; components = components_shown p.stream.last_components; sums = p.sums }

-- a call: its answer, with the state that it returns, and the store after it (RULES 8.4, 10.3)
abbrev pub called : Detector → Call → Outcome Answer
called d c = outcome_of d.stream (picture_options d.options) (bad_state d) (stepped d) (refused_answer d) (cleared_answer d) c
