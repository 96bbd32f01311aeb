-- What the adaptive detector answers to an accepted frame, by the frame's result, and to any call (RULES 9.2, 9.4, 9.11).
use Rattle.std.specs.Prelude.{Float, None, Option, Some}
use Rattle.timestamp.specs.declared.Timestamp.{Timestamp}
use Rattle.stream.specs.Stream.{components_shown}
use Rattle.window.specs.declared.Window.{Window}
use Rattle.window.specs.declared.WindowStep.{WindowStep}
use Rattle.window.specs.Window.{unchanged, push_and_check}
use Rattle.frame_call.specs.Call.{PictureAnswer, Call, Outcome, outcome_of}
use Rattle.adaptive.specs.declared.Options.{Options}
use Rattle.adaptive.specs.declared.Detector.{Detector}
use Rattle.adaptive.specs.Options.{window_options, picture_options}
use Rattle.adaptive.specs.State.{Answer, bad_state, refused_answer, cleared_answer}

-- The score of a scored frame is pushed with its stamp. The first frame of a stretch, which has none, leaves the window as it is (RULES 9.4): a
-- change of size keeps it, with the last cut or seed, the ratio and the target score, and only `clear` drops it (RULES 9.11).
abbrev pub window_step : Options → Window → Timestamp → Option Float → WindowStep
window_step o s ts None = unchanged s
window_step o s ts (Some x) = push_and_check (window_options o) s ts x

-- the answer to an accepted frame, by its stamp, its sums and the stream after it, which has its score as the content detector scores it (RULES
-- 9.2): 0, the new state, the cut or none, the score or none, the components and the sums (RULES 8.4)
unfoldable pub stepped : Detector → Timestamp → PictureAnswer → Answer
stepped d ts p =
    let step : WindowStep = window_step d.options d.window ts p.stream.last_score in
    let after : Detector = record { options = d.options; stream = p.stream; window = step.window } in
    record { number = 0; detector = after; cut = step.cut; score = p.stream.last_score; components = components_shown p.stream.last_components; sums = p.sums }

-- a call: its answer, with the state that it returns, and the store after it (RULES 8.4, 10.3)
abbrev pub called : Detector → Call → Outcome Answer
called d c = outcome_of d.stream (picture_options d.options) (bad_state d) (stepped d) (refused_answer d) (cleared_answer d) c
