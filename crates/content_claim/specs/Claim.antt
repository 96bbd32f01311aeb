-- What holds of every list of content calls under settings that are accepted (RULES 14.5 to 14.11 and 14.13). Stretches, scored frames, cuts,
-- choices and distances are those of `filter`'s Claim.antt. How a call counts there is said of the settings and the call alone, and not of the
-- detector's state.
use Rattle.std.specs.Prelude.{◌≡◌, true, cond, List, map, ℕ, Float, Option}
use Rattle.std.specs.Float.Ieee.{le}
use Rattle.laws.specs.Floats.{float}
use Rattle.score.specs.Scores.{score_of}
use Rattle.stream.specs.Stream.{components_of}
use Rattle.scoring.specs.Planes.{Planes}
use Rattle.filter.specs.Calls.{FilterCall, refused, frame, clear, Answered, ◌brought◌}
use Rattle.filter.specs.Claim.{StretchesHold}
use Rattle.canny_marks.specs.Median.{median_of}
use Rattle.light_plan.specs.Rows.{threshold_at}
use Rattle.light_plan.specs.Plan.{rows_of, is_given}
use Rattle.frame_call.specs.Call.{Call, by_call, sums_of}
use Rattle.frame_call.specs.Run.{is_refused, MadeCall, run_from, RunClaim}
use Rattle.content.specs.declared.Options.{Options}
use Rattle.content.specs.Options.{filter_options, picture_options}
use Rattle.content.specs.State.{Answer, fresh, settled}
use Rattle.content.specs.Step.{called}
use Rattle.timestamp.specs.declared.Timestamp.{Timestamp}

-- the score of a frame under these settings, with the store as its call finds it (RULES 14.7)
unfoldable pub frame_score : Options → (width height : ℕ) → Planes → (store : List ℕ) → Float
frame_score o w h p store = score_of (components_of (sums_of (picture_options o) true w h p store)) o.weights

-- a frame's own threshold: with a plan that of the row that has the median of its luma, otherwise the set one (RULES 18.5)
abbrev pub own_threshold : Options → Planes → Float
own_threshold o p = cond (is_given o.plan) (float (threshold_at (rows_of o.plan) (median_of p.luma))) o.threshold

-- A call as `filter`'s claim sees it (RULES 14.7): refused; a frame with its size, its stamp, and whether its score is at or over its own threshold,
-- which is not asked of the first frame of a stretch; or a `clear`.
abbrev pub view_of : Options → Call → FilterCall
view_of o c =
    by_call (λ u w h p ts m. cond (is_refused c) refused (frame w h (record { stamp = ts; above = le (own_threshold o p) (frame_score o w h p m.store) }))) clear c

-- the calls of a list, from a fresh state (RULES 14.5)
abbrev pub content_run : Options → List Call → List (MadeCall Answer)
content_run o calls = run_from called (λ (a : Answer). a.detector) (fresh o) calls

-- a call as `filter`'s claim sees it, with the cut or none that it returned
abbrev pub with_cut : Options → MadeCall Answer → Answered (Option Timestamp)
with_cut o m = view_of o m.call brought m.outcome.answer.cut

-- the claim about a list of content calls under settings that a settings call accepts (RULES 14.13)
pub record ContentClaim (o : Options) (calls : List Call) : Type 0 where
  -- a settings call returns a fresh state (RULES 14.5)
  pub start : (settled o).detector ≡ fresh o
  -- each call returns its own number, which is never 15 (RULES 14.13); when refused calls are left out, each other call brings what it brought
  -- (RULES 14.6)
  pub each-call : RunClaim called (λ (a : Answer). a.detector) (λ (a : Answer). a.number) (fresh o) calls
  -- each stretch keeps the rule of the mode, its first frame gives no cut, and every cut belongs to a stretch (RULES 14.10, 14.11)
  pub holds : StretchesHold (filter_options o) (map (with_cut o) (content_run o calls))
