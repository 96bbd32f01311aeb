-- A reader who has the answer to a frame and the weights works out the components and the score again, from the answer's whole sums and its count alone
-- (RULES 6.8), of any detector whose step shows the frame's score, components and sums.
use mathlib.Core.Path.{◌≡◌, sym, subst}
use mathlib.Core.Bool.{Bool}
use Prim.Native.Nat.{ℕ}
use Rattle.timestamp.specs.declared.Timestamp.{Timestamp}
use Rattle.stream.specs.declared.Stream.{Stream}
use Rattle.stream.specs.Stream.{components_shown, FromSums}
use Rattle.frame_call.specs.declared.PictureOptions.{PictureOptions}
use Rattle.scoring.specs.Planes.{Planes}
use Rattle.frame_call.specs.Call.{PictureAnswer, Memory, Outcome, pictured, answered_by, Called}
use Rattle.frame_call.proofs.Sums.{none_from, frame_from}
use Rattle.frame_call.proofs.Returned.{called-by}
use Rattle.detector.specs.Answers.{Answer, without_score}

module _ {D : Type 0} (s : Stream) (o : PictureOptions) (bad : Bool) (stepped : Timestamp → PictureAnswer → Answer D) (d : D)
    (shows : (ts : Timestamp) (p : PictureAnswer)
    → (stepped ts p).score ≡ p.stream.last_score × ((stepped ts p).components ≡ components_shown p.stream.last_components × (stepped ts p).sums ≡ p.sums)) where
  abbrev From : Answer D → Type 0
  From a = FromSums o.weights a.score a.components a.sums

  -- a frame call, by the picture of its frame; what `clear` answers plays no part
  pub by-picture : (ts : Timestamp) (u w h : ℕ) (p : Planes) (m m' : Memory) (q : PictureAnswer) (r : Answer D) → let picture : Outcome PictureAnswer = pictured s o bad u w h p m in
      Called picture q q.number m m' → r ≡ answered_by (stepped ts) (without_score d) q → r.number ≡ q.number
      → Called {A = Answer D} (record { answer = answered_by (stepped ts) (without_score d) picture.answer; store = picture.store }) r r.number m m' × From r
  by-picture ts u w h p m m' q r told e z =
      let made = called-by (stepped ts) (without_score d) (pictured s o bad u w h p m) q r r.number m m' told e z in (
        made,
        subst From (sym made.answered)
            (frame_from s o bad stepped (without_score d) (without_score d 0) (λ (a : Answer D). a.score) (λ (a : Answer D). a.components) (λ (a : Answer D). a.sums)
            (λ ts p from. let e = shows ts p in rw (e.0, e.1.0, e.1.1) from) (λ n. none_from o.weights) (none_from o.weights) u w h p ts m),
      )
