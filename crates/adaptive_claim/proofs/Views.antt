-- An adaptive call acts on the window as the window's own call does. Assumes nothing.
use Rattle.std.proofs.Common.{Float, None, Option, Some}
use mathlib.Core.Path.{◌≡◌, refl, subst}
use mathlib.Core.Bool.{Bool, true, false, cond}
use Prim.Native.Nat.{ℕ}
use lib.Dec.{eqb}
use Rattle.timestamp.specs.declared.Timestamp.{Timestamp}
use Rattle.scoring.specs.Planes.{Planes}
use Rattle.window.specs.declared.WindowStep.{WindowStep}
use Rattle.window.specs.Calls.{WindowCall, refused, unscored, scored, clear as clear_call, turn}
use Rattle.frame_call.specs.Call.{PictureAnswer, Memory, Call, luma, bgr, hsv, clear, by_call, frame_number, accepted, pictured, answered_by}
use Rattle.frame_call.proofs.Runs.{if-accepted, if-refused}
use Rattle.adaptive.specs.declared.Options.{Options}
use Rattle.adaptive.specs.declared.Detector.{Detector}
use Rattle.adaptive.specs.Options.{window_options, picture_options, options_refusal}
use Rattle.adaptive.specs.State.{Answer, bad_state, refused_answer}
use Rattle.adaptive.specs.Step.{window_step, stepped, called}
use Rattle.adaptive_claim.proofs.Good.{Good, clear-is}

-- what an answer makes of the window
abbrev turned : Answer → WindowStep
turned a = record { window = a.detector.window; cut = a.cut }

-- a frame that is scored, or is the first of its stretch
abbrev pub scored_if : Option Float → Timestamp → WindowCall
scored_if None ts = unscored
scored_if (Some x) ts = scored ts x

module _ (d : Detector) (u w h : ℕ) (p : Planes) (ts : Timestamp) (m : Memory) where
  -- what the frame brings when it is accepted
  abbrev pub after : PictureAnswer
  after = (accepted d.stream (picture_options d.options) w h p m.store).answer

  abbrev pub frame_view : WindowCall
  frame_view = cond (eqb (frame_number (bad_state d) u w h m) 0) (scored_if after.stream.last_score ts) refused

  step-acts : (x : Option Float) → turn (window_options d.options) d.window (scored_if x ts) ≡ window_step d.options d.window ts x
  step-acts None = refl
  step-acts (Some x) = refl

  accepted-acts : turn (window_options d.options) d.window (scored_if after.stream.last_score ts) ≡ turned (stepped d ts after)
  unfolding stepped
  accepted-acts = step-acts after.stream.last_score

  frame-acts : turn (window_options d.options) d.window frame_view
      ≡ turned (answered_by (stepped d ts) (refused_answer d) (pictured d.stream (picture_options d.options) (bad_state d) u w h p m).answer)
  frame-acts = by_zero (eqb (frame_number (bad_state d) u w h m) 0) refl
    where
      by_zero : (b : Bool) → eqb (frame_number (bad_state d) u w h m) 0 ≡ b
          → turn (window_options d.options) d.window frame_view
          ≡ turned (answered_by (stepped d ts) (refused_answer d) (pictured d.stream (picture_options d.options) (bad_state d) u w h p m).answer)
      by_zero true e = rw (e, if-accepted d.stream (picture_options d.options) (bad_state d) (stepped d ts) (refused_answer d) u w h p m e) accepted-acts
      by_zero false e = rw (e, if-refused d.stream (picture_options d.options) (bad_state d) (stepped d ts) (refused_answer d) u w h p m e)

-- a call, at the state that it finds
abbrev pub view_of : Detector → Call → WindowCall
view_of d c = by_call (frame_view d) clear_call c

module _ (o : Options) (ok : options_refusal o ≡ 0) where
  own-acts : (d : Detector) (c : Call) → Good o d → turn (window_options d.options) d.window (view_of d c) ≡ turned (called d c).answer
  own-acts d (luma plane w h stride ts m) g = frame-acts d _ _ _ _ ts m
  own-acts d (bgr pixels w h stride ts m) g = frame-acts d _ _ _ _ ts m
  own-acts d (hsv hs ss vs w h stride ts m) g = frame-acts d _ _ _ _ ts m
  own-acts d clear g = rw (clear-is o ok d g)

  pub acts : (d : Detector) (c : Call) → Good o d → turn (window_options o) d.window (view_of d c) ≡ turned (called d c).answer
  acts d c g = subst (λ (x : Options). turn (window_options x) d.window (view_of d c) ≡ turned (called d c).answer) g.options (own-acts d c g)
