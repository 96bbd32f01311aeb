-- Refused calls of any detector: they have no cut, and at a bad state each is refused by 15.
use mathlib.Core.Path.{◌≡◌, refl, sym, ◌∙◌}
use mathlib.Core.Bool.{Bool, true, false}
use Rattle.std.proofs.Common.{None}
use Prim.Native.Nat.{ℕ}
use borrow.Author.Tests.{eqb-true, eqb-false}
use lib.Dec.{eqb}
use Rattle.timestamp.specs.declared.Timestamp.{Timestamp}
use Rattle.stream.specs.declared.Stream.{Stream}
use Rattle.scoring.specs.Planes.{Planes}
use Rattle.frame_call.specs.declared.PictureOptions.{PictureOptions}
use Rattle.frame_call.specs.Call.{PictureAnswer, Memory, Call, luma, bgr, hsv, clear, call_refusal, pictured, answered_by, Outcome, outcome_of}
use Rattle.detector.specs.Answers.{Answer, without_score}

at-bad : (s : Stream) (o : PictureOptions) (b : Bool) (u w h : ℕ) (p : Planes) (m : Memory) → b ≡ true → (pictured s o b u w h p m).answer.number ≡ 15
unfolding pictured call_refusal
at-bad s o b u w h p m e = rw e

module _ {D : Type 0} (stream : D → Stream) (settings : D → PictureOptions) (bad : D → Bool) (stepped : D → Timestamp → PictureAnswer → Answer D) (cleared : D → Answer D)
    (accepted : (d : D) (ts : Timestamp) (p : PictureAnswer) → (stepped d ts p).number ≡ 0) where
  abbrev answer_to : D → Timestamp → PictureAnswer → Answer D
  answer_to d ts p = answered_by (stepped d ts) (without_score d) p

  abbrev outcome : D → Call → Outcome (Answer D)
  outcome d c = outcome_of (stream d) (settings d) (bad d) (stepped d) (without_score d) (cleared d) c

  abbrev picture : D → (u w h : ℕ) → Planes → Memory → PictureAnswer
  picture d u w h p m = (pictured (stream d) (settings d) (bad d) u w h p m).answer

  -- ---- a refused call has no cut, nor has `clear`

  picture-none : (d : D) (ts : Timestamp) (p : PictureAnswer) → ((answer_to d ts p).number ≡ 0 → ⊥) → (answer_to d ts p).cut ≡ None
  picture-none d ts p some = by_zero (eqb p.number 0) refl some
    where
      by_zero : (b : Bool) → eqb p.number 0 ≡ b → ((answer_to d ts p).number ≡ 0 → ⊥) → (answer_to d ts p).cut ≡ None
      by_zero true e f = absurd (f (rw e (accepted d ts p)))
      by_zero false e f = rw e

  pub refused_none : ((d : D) → (cleared d).cut ≡ None)
      → (d : D) (c : Call) → eqb (outcome d c).answer.number 0 ≡ false → (outcome d c).answer.cut ≡ None
  refused_none none d (luma plane w h stride ts m) e = picture-none d ts (picture d _ w h _ m) (eqb-false _ 0 e)
  refused_none none d (bgr pixels w h stride ts m) e = picture-none d ts (picture d _ w h _ m) (eqb-false _ 0 e)
  refused_none none d (hsv hs ss vs w h stride ts m) e = picture-none d ts (picture d _ w h _ m) (eqb-false _ 0 e)
  refused_none none d clear e = none d

  -- ---- at a bad state a call is refused by 15

  picture-number : (d : D) (ts : Timestamp) (p : PictureAnswer) → (answer_to d ts p).number ≡ p.number
  picture-number d ts p = by_zero (eqb p.number 0) refl
    where
      by_zero : (b : Bool) → eqb p.number 0 ≡ b → (answer_to d ts p).number ≡ p.number
      by_zero true e = rw e (accepted d ts p ∙ sym (eqb-true p.number 0 e))
      by_zero false e = rw e

  picture-bad : (d : D) (ts : Timestamp) (u w h : ℕ) (p : Planes) (m : Memory) → bad d ≡ true → (answer_to d ts (picture d u w h p m)).number ≡ 15
  picture-bad d ts u w h p m e = picture-number d ts (picture d u w h p m) ∙ at-bad (stream d) (settings d) (bad d) u w h p m e

  pub bad-15 : ((d : D) → bad d ≡ true → (cleared d).number ≡ 15) → (d : D) (c : Call) → bad d ≡ true → (outcome d c).answer.number ≡ 15
  bad-15 told d (luma plane w h stride ts m) e = picture-bad d ts _ w h _ m e
  bad-15 told d (bgr pixels w h stride ts m) e = picture-bad d ts _ w h _ m e
  bad-15 told d (hsv hs ss vs w h stride ts m) e = picture-bad d ts _ w h _ m e
  bad-15 told d clear e = told d e
