-- What an accepted frame call promises, over plain values; and what a detector's call then promises.
use mathlib.Core.Path.{◌≡◌, refl, sym, ap, ◌∙◌}
use mathlib.Core.Bool.{Bool}
use mathlib.Core.List.{List}
use Prim.Native.Nat.{ℕ}
use native.Mathlib.Omega.{arith}
use lib.IntN.{ℤ}
use lib.ListN.{length}
use borrow.Author.Tests.{eq-eqb}
use Rattle.timestamp.specs.declared.Timestamp.{Timestamp}
use Rattle.stream.specs.declared.Stream.{Stream}
use Rattle.scoring.specs.Planes.{Planes}
use Rattle.frame_call.specs.declared.PictureOptions.{PictureOptions}
use Rattle.frame_call.specs.Call.{PictureAnswer, Memory, frame_number, Outcome, accepted, pictured, answered_by, outcome_of, luma, memory, Called}

module _ (s : Stream) (o : PictureOptions) (bad : Bool) (u w h : ℕ) (p : Planes) (m : Memory) where
  is-accepted : frame_number bad u w h m ≡ 0 → pictured s o bad u w h p m ≡ accepted s o w h p m.store
  unfolding pictured
  is-accepted z = rw (eq-eqb (frame_number bad u w h m) 0 z)

  abbrev took : Outcome PictureAnswer
  took = accepted s o w h p m.store

  took_number : took.answer.number ≡ 0
  unfolding accepted
  took_number = refl

  pub called-accepted : (r : PictureAnswer) (m' : Memory) → frame_number bad u w h m ≡ 0 → r ≡ took.answer → m'.store ≡ took.store
      → length m'.scratch ≡ length m.scratch → length m'.magnitudes ≡ length m.magnitudes
      → Called (pictured s o bad u w h p m) r r.number m m'
  called-accepted r m' z a b l₁ l₂ =
      let q : took ≡ pictured s o bad u w h p m = sym (is-accepted z) in
      record {
        answered = a ∙ ap (λ (x : Outcome PictureAnswer). x.answer) q;
        stored = b ∙ ap (λ (x : Outcome PictureAnswer). x.store) q;
        scratch-length = l₁;
        magnitudes-length = l₂;
        refused = λ n. absurd (omega (arith, ap (λ (x : PictureAnswer). x.number) a, took_number));
      }

-- a detector's call, by that of its frame: the answer is by the picture, and so is the answer's number
pub called-by : {A : Type 0} (stepped : PictureAnswer → A) (refused : ℕ → A) (p : Outcome PictureAnswer) (q : PictureAnswer) (r : A) (n : ℕ) (m m' : Memory)
    → Called p q q.number m m' → r ≡ answered_by stepped refused q → n ≡ q.number
    → Called {A = A} (record { answer = answered_by stepped refused p.answer; store = p.store }) r n m m'
called-by stepped refused p q r n m m' c e z =
    record {
      answered = e ∙ ap (λ (x : PictureAnswer). answered_by stepped refused x) c.answered;
      stored = c.stored;
      scratch-length = c.scratch-length;
      magnitudes-length = c.magnitudes-length;
      refused = λ h. c.refused (omega arith);
    }

-- of the scratch and the magnitudes a call asks for the lengths alone
pub lent_same : {A : Type 0} (s : Stream) (o : PictureOptions) (bad : Bool) (stepped : Timestamp → PictureAnswer → A) (refused : ℕ → A) (cleared : A)
    (plane : List ℕ) (w h stride : ℕ) (ts : Timestamp) (store scratch scratch' : List ℕ) (magnitudes magnitudes' : List ℤ)
    → length scratch ≡ length scratch' → length magnitudes ≡ length magnitudes'
    → outcome_of s o bad stepped refused cleared (luma plane w h stride ts (memory store scratch magnitudes))
    ≡ outcome_of s o bad stepped refused cleared (luma plane w h stride ts (memory store scratch' magnitudes'))
unfolding pictured
lent_same s o bad stepped refused cleared plane w h stride ts store scratch scratch' magnitudes magnitudes' p q = rw (p, q)
