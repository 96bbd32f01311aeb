-- A frame that its constructor refuses is refused by the call on it with the same number: the answer has that number, the state as it was, no cut and no
-- sums, and the store is as it was. So nobody has to read a constructor's result before the call. It holds of any detector at a state that is not bad.
use mathlib.Core.Path.{◌≡◌}
use mathlib.Core.Bool.{Bool, false}
use Prim.Native.Nat.{ℕ, ◌<◌}
use native.Mathlib.Omega.{arith}
use lib.Dec.{eqb}
use borrow.Author.Tests.{ne_eqb}
use Rattle.timestamp.specs.declared.Timestamp.{Timestamp}
use Rattle.stream.specs.declared.Stream.{Stream}
use Rattle.scoring.specs.Planes.{Planes}
use Rattle.frame_call.specs.declared.PictureOptions.{PictureOptions}
use Rattle.frame_call.specs.Call.{PictureAnswer, Memory, Call, luma, bgr, hsv, Outcome, call_refusal, pictured, answered_by, outcome_of}
use Rattle.detector.specs.Answers.{Answer, without_score}
use Rattle.frame_records.specs.declared.HsvFrame.{HsvFrame}
use Rattle.frame_records.specs.Frames.{Plane, LumaFrame, RgbFrame, Made, luma_frame, rgb_frame, hsv_frame}
use Rattle.content.specs.declared.Detector.{Detector as ContentDetector}
use Rattle.content.specs.State.{bad_state as content_bad, cleared_answer as content_cleared}
use Rattle.content.specs.Step.{stepped as content_stepped, called as content_called}
use Rattle.adaptive.specs.declared.Detector.{Detector as AdaptiveDetector}
use Rattle.adaptive.specs.State.{bad_state as adaptive_bad, cleared_answer as adaptive_cleared}
use Rattle.adaptive.specs.Step.{stepped as adaptive_stepped, called as adaptive_called}

-- the calls that the three functions make on a record
abbrev pub on_luma : LumaFrame → Memory → Call
on_luma f m = luma f.«data».now f.width f.height f.stride f.timestamp m

abbrev pub on_rgb : RgbFrame → Memory → Call
on_rgb f m = bgr f.«data».now f.width f.height f.stride f.timestamp m

abbrev pub on_hsv : HsvFrame → Memory → Call
on_hsv f m = hsv f.h.now f.s.now f.v.now f.width f.height f.stride f.timestamp m

-- what a refusal with the number n brings
abbrev pub refused_by : {D : Type 0} → ℕ → D → Memory → Outcome (Answer D)
refused_by n d m = record { answer = without_score d n; store = m.store }

-- what is to be shown of a detector's calls at the state d
pub record RefusedAgain {D : Type 0} (called : Call → Outcome (Answer D)) (d : D) : Type 0 where
  pub refused-luma : (plane : Plane) (width height stride : ℕ) (ts : Timestamp) (m : Memory) → let f : Made LumaFrame = luma_frame plane width height stride ts in
      0 < f.number → called (on_luma f.frame m) ≡ refused_by f.number d m
  pub refused-rgb : (pixels : Plane) (width height stride : ℕ) (ts : Timestamp) (m : Memory) → let f : Made RgbFrame = rgb_frame pixels width height stride ts in
      0 < f.number → called (on_rgb f.frame m) ≡ refused_by f.number d m
  pub refused-hsv : (h s v : Plane) (width height stride : ℕ) (ts : Timestamp) (m : Memory) → let f : Made HsvFrame = hsv_frame h s v width height stride ts in
      0 < f.number → called (on_hsv f.frame m) ≡ refused_by f.number d m

module _ {D : Type 0} (s : Stream) (o : PictureOptions) (bad : Bool) (stepped : Timestamp → PictureAnswer → Answer D) (cleared : Answer D) (d : D) (ok : bad ≡ false) where
  -- what a frame brings
  abbrev framed : (refusal width height : ℕ) → Planes → Timestamp → Memory → Outcome (Answer D)
  framed u w h p ts m =
      let r = pictured s o bad u w h p m in
      record { answer = answered_by (stepped ts) (without_score d) r.answer; store = r.store }

  by-frame : (u w h : ℕ) (p : Planes) (ts : Timestamp) (m : Memory) → 0 < u → framed u w h p ts m ≡ refused_by u d m
  unfolding pictured call_refusal
  by-frame u w h p ts m n =
      let z : eqb u 0 ≡ false = ne_eqb u 0 (λ z. omega arith) in
      rw (ok, z, z, z)

  -- the theorem, of any detector
  pub refused-again : RefusedAgain (outcome_of s o bad stepped (without_score d) cleared) d
  refused-again =
      record {
        refused-luma = λ plane width height stride ts m n. by-frame _ _ _ _ ts m n;
        refused-rgb = λ pixels width height stride ts m n. by-frame _ _ _ _ ts m n;
        refused-hsv = λ h s v width height stride ts m n. by-frame _ _ _ _ ts m n;
      }

-- of the content detector
pub content-refuses : (d : ContentDetector) → content_bad d ≡ false → RefusedAgain (content_called d) d
content-refuses d ok = refused-again _ _ _ (content_stepped d) (content_cleared d) d ok

-- of the adaptive detector
pub adaptive-refuses : (d : AdaptiveDetector) → adaptive_bad d ≡ false → RefusedAgain (adaptive_called d) d
adaptive-refuses d ok = refused-again _ _ _ (adaptive_stepped d) (adaptive_cleared d) d ok
