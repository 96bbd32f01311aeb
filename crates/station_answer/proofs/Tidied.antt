-- What a call of any detector leaves has 0 in the places of its arrays that nothing looks at, where the state before it had.
use mathlib.Core.Path.{◌≡◌, refl}
use mathlib.Core.Bool.{Bool, true, false}
use lib.Dec.{eqb}
use Rattle.timestamp.specs.declared.Timestamp.{Timestamp}
use Rattle.stream.specs.declared.Stream.{Stream}
use Rattle.frame_call.specs.declared.PictureOptions.{PictureOptions}
use Rattle.frame_call.specs.Call.{PictureAnswer, Call, luma, bgr, hsv, clear, answered_by, outcome_of}
use Rattle.detector.specs.Answers.{Answer, without_score}

module _ {D : Type 0} (tidied : D → D) (stepped : D → Timestamp → PictureAnswer → Answer D) (cleared : D → Answer D)
    (step : (d : D) (ts : Timestamp) (p : PictureAnswer) → tidied d ≡ d → tidied (stepped d ts p).detector ≡ (stepped d ts p).detector)
    (cleared-tidied : (d : D) → tidied d ≡ d → tidied (cleared d).detector ≡ (cleared d).detector) where
  abbrev Tidy : Answer D → Type 0
  Tidy a = tidied a.detector ≡ a.detector

  frame : (d : D) (ts : Timestamp) (p : PictureAnswer) → tidied d ≡ d → Tidy (answered_by (stepped d ts) (without_score d) p)
  frame d ts p e = by_zero (eqb p.number 0) refl
    where
      by_zero : (b : Bool) → eqb p.number 0 ≡ b → Tidy (answered_by (stepped d ts) (without_score d) p)
      by_zero true z = rw z (step d ts p e)
      by_zero false z = rw z e

  pub outcome_tidied : (s : Stream) (o : PictureOptions) (bad : Bool) (d : D) (c : Call) → tidied d ≡ d
      → Tidy (outcome_of s o bad (stepped d) (without_score d) (cleared d) c).answer
  outcome_tidied s o bad d (luma plane w h stride ts m) e = frame d ts _ e
  outcome_tidied s o bad d (bgr pixels w h stride ts m) e = frame d ts _ e
  outcome_tidied s o bad d (hsv hs ss vs w h stride ts m) e = frame d ts _ e
  outcome_tidied s o bad d clear e = cleared-tidied d e

-- the same of an answer that is the definition's
pub answer_tidied : {D : Type 0} (tidied : D → D) (stepped : D → Timestamp → PictureAnswer → Answer D) (cleared : D → Answer D)
    → ((d : D) (ts : Timestamp) (p : PictureAnswer) → tidied d ≡ d → tidied (stepped d ts p).detector ≡ (stepped d ts p).detector)
    → ((d : D) → tidied d ≡ d → tidied (cleared d).detector ≡ (cleared d).detector)
    → (s : Stream) (o : PictureOptions) (bad : Bool) (d : D) (c : Call) (a : Answer D)
    → a ≡ (outcome_of s o bad (stepped d) (without_score d) (cleared d) c).answer → tidied d ≡ d
    → tidied a.detector ≡ a.detector
answer_tidied tidied stepped cleared step cleared-tidied s o bad d c a is e = rw is (outcome_tidied tidied stepped cleared step cleared-tidied s o bad d c e)
