-- A content call acts on what the filter's detector would keep as its view does. Assumes nothing.
use Rattle.std.proofs.Common.{None, Some}
use mathlib.Core.Path.{◌≡◌, refl, ap, subst}
use mathlib.Core.Bool.{Bool, true, false, cond, not}
use Prim.Native.Nat.{ℕ}
use lib.Dec.{eqb}
use lib.Ieee.{le}
use Rattle.timestamp.specs.declared.Timestamp.{Timestamp}
use Rattle.laws.specs.Floats.{float}
use Rattle.canny_marks.specs.Median.{median_of}
use Rattle.score.specs.Scores.{score_of}
use Rattle.stream.specs.Stream.{components_of, is_scored, next_stream}
use Rattle.scoring.specs.Planes.{Planes}
use Rattle.filter.specs.declared.FilterStep.{FilterStep}
use Rattle.filter.specs.Calls.{Frame, refused, frame, State, Turn, filtered, turn_to, turn}
use Rattle.light_plan.specs.Rows.{threshold_at}
use Rattle.light_plan.specs.Plan.{rows_of, is_given}
use Rattle.frame_call.specs.Call.{Memory, Call, luma, bgr, hsv, clear, frame_number, sums_of, median_if, accepted, pictured, answered_by}
use Rattle.frame_call.proofs.Runs.{if-accepted, if-refused}
use Rattle.content.specs.declared.Options.{Options}
use Rattle.content.specs.declared.Detector.{Detector}
use Rattle.content.specs.Options.{filter_options, picture_options, options_refusal}
use Rattle.content.specs.State.{Answer, bad_state, refused_answer}
use Rattle.content.specs.Step.{frame_threshold, filter_step, stepped, called}
use Rattle.content_claim.specs.Claim.{frame_score, own_threshold, view_of}
use Rattle.content_claim.proofs.Good.{Good, not-bad, clear-is}

-- what the filter's detector would keep
abbrev pub kept : Detector → State
kept d = record { has_previous = d.stream.has_previous; width = d.stream.width; height = d.stream.height; filter = d.filter }

-- what an answer makes of it
abbrev turned : Answer → Turn
turned a = record { state = kept a.detector; cut = a.cut }

-- a frame's own threshold is the one that the detector measures it by
own-is : (o : Options) (p : Planes) → own_threshold o p ≡ frame_threshold o (median_if (is_given o.plan) p.luma)
own-is o p = by-given (is_given o.plan)
  where
    by-given : (given : Bool) → cond given (float (threshold_at (rows_of o.plan) (median_of p.luma))) o.threshold ≡ frame_threshold o (median_if given p.luma)
    by-given true = refl
    by-given false = refl

module _ (d : Detector) (u w h : ℕ) (p : Planes) (ts : Timestamp) (m : Memory) where
  abbrev seen_frame : Frame
  seen_frame = record { stamp = ts; above = le (own_threshold d.options p) (frame_score d.options w h p m.store) }

  -- the detector asks for a score just where there is one
  filtered-is : (scored : Bool)
      → filtered (filter_options d.options) scored d.filter seen_frame
      ≡ filter_step d.options d.filter ts
      (cond scored (Some (score_of (components_of (sums_of (picture_options d.options) scored w h p m.store)) d.options.weights)) None) (median_if (is_given d.options.plan) p.luma)
  unfolding frame_score
  filtered-is true = rw (own-is d.options p) refl
  filtered-is false = refl

  accepted-acts : turn (filter_options d.options) (kept d) (frame w h seen_frame)
      ≡ turned (stepped d ts (accepted d.stream (picture_options d.options) w h p m.store).answer)
  unfolding stepped accepted next_stream is_scored
  accepted-acts = ap (λ (s : FilterStep). turn_to w h s) (filtered-is (is_scored d.stream w h))

  frame-acts : bad_state d ≡ false
      → turn (filter_options d.options) (kept d) (cond (not (eqb (frame_number false u w h m) 0)) refused (frame w h seen_frame))
      ≡ turned (answered_by (stepped d ts) (refused_answer d) (pictured d.stream (picture_options d.options) (bad_state d) u w h p m).answer)
  frame-acts bad = rw bad (by_zero (eqb (frame_number false u w h m) 0) refl)
    where
      by_zero : (b : Bool) → eqb (frame_number false u w h m) 0 ≡ b
          → turn (filter_options d.options) (kept d) (cond (not (eqb (frame_number false u w h m) 0)) refused (frame w h seen_frame))
          ≡ turned (answered_by (stepped d ts) (refused_answer d) (pictured d.stream (picture_options d.options) false u w h p m).answer)
      by_zero true e = rw (e, if-accepted d.stream (picture_options d.options) false (stepped d ts) (refused_answer d) u w h p m e) accepted-acts
      by_zero false e = rw (e, if-refused d.stream (picture_options d.options) false (stepped d ts) (refused_answer d) u w h p m e)

module _ (o : Options) (ok : options_refusal o ≡ 0) where
  own-acts : (d : Detector) (c : Call) → Good o d → turn (filter_options d.options) (kept d) (view_of d.options c) ≡ turned (called d c).answer
  own-acts d (luma plane w h stride ts m) g = frame-acts d _ _ _ _ ts m (not-bad o ok d g)
  own-acts d (bgr pixels w h stride ts m) g = frame-acts d _ _ _ _ ts m (not-bad o ok d g)
  own-acts d (hsv hs ss vs w h stride ts m) g = frame-acts d _ _ _ _ ts m (not-bad o ok d g)
  own-acts d clear g = rw (clear-is o ok d g)

  pub acts : (d : Detector) (c : Call) → Good o d → turn (filter_options o) (kept d) (view_of o c) ≡ turned (called d c).answer
  acts d c g = subst (λ (x : Options). turn (filter_options x) (kept d) (view_of x c) ≡ turned (called d c).answer) g.options (own-acts d c g)
