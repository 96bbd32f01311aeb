-- In every list of calls an answer has sums exactly where its frame has an earlier frame in its stretch, for a detector whose calls are
-- `outcome_of`'s. Assumes nothing else.
use mathlib.Core.Path.{◌≡◌, refl, sym, ap, subst, ◌∙◌}
use mathlib.Core.Bool.{Bool, true, false, cond, not, ◌&&◌, true≢false}
use mathlib.Core.List.{List, [], ◌∷◌}
use Prim.Native.Nat.{ℕ, ◌*◌}
use lib.Dec.{eqb}
use Rattle.timestamp.specs.declared.Timestamp.{Timestamp}
use Rattle.scoring.specs.Planes.{Planes}
use Rattle.scoring.specs.Sums.{frame_sums}
use Rattle.stream.specs.declared.Stream.{Stream}
use Rattle.stream.specs.declared.Sums.{Sums}
use Rattle.stream.specs.Stream.{no_sums, is_scored, next_stream}
use Rattle.frame_call.specs.declared.PictureOptions.{PictureOptions}
use Rattle.frame_call.specs.Call.{PictureAnswer, Memory, Call, luma, bgr, hsv, clear, frame_number, Outcome, sums_of, accepted, pictured, answered_by, outcome_of}
use Rattle.frame_call.specs.Run.{run_from}
use Rattle.frame_call.specs.Earlier.{Ongoing, none_yet, of_size, ongoing_after, goes_on, has_earlier, pixels_of, SumsAt, SumsHold}
use Rattle.frame_call.proofs.Runs.{DetectorLaws, if-accepted, if-refused, stays}

-- the stream says which stretch a list has come to
abbrev Follows : Stream → Ongoing → Type 0
Follows s none_yet = s.has_previous ≡ false
Follows s (of_size w h) = (s.width ≡ w) × ((s.height ≡ h) × (s.has_previous ≡ true))

and-with-false : (a b : Bool) → a && b && false ≡ false
and-with-false true true = refl
and-with-false true false = refl
and-with-false false b = refl

and-with-true : (a b : Bool) → a && b && true ≡ a && b
and-with-true true true = refl
and-with-true true false = refl
and-with-true false b = refl

-- a frame is scored exactly if it goes on with the stretch
scored-is : (s : Stream) (t : Ongoing) (w h : ℕ) → Follows s t → is_scored s w h ≡ goes_on t w h
unfolding is_scored
scored-is s none_yet w h f = rw f (and-with-false (eqb s.width w) (eqb s.height h))
scored-is s (of_size v g) w h f = rw (f.0, f.1.0, f.1.1) (and-with-true (eqb v w) (eqb g h))

module _ {D A : Type 0} (stream_of : D → Stream) (settings : D → PictureOptions) (bad : D → Bool)
    (stepped : D → Timestamp → PictureAnswer → A) (refused : D → ℕ → A) (cleared : D → A) (number : A → ℕ) (state_of : A → D) (sums : A → Sums) where
  abbrev called : D → Call → Outcome A
  called d c = outcome_of (stream_of d) (settings d) (bad d) (stepped d) (refused d) (cleared d) c

  -- what a detector shows of its answers' sums, and of the stream after a call
  pub record SumsLaws (Good : D → Type 0) : Type 0 where
    pub step-stream : (d : D) (ts : Timestamp) (p : PictureAnswer) → stream_of (state_of (stepped d ts p)) ≡ p.stream
    pub step-sums : (d : D) (ts : Timestamp) (p : PictureAnswer) → sums (stepped d ts p) ≡ p.sums
    pub refused-sums : (d : D) (n : ℕ) → sums (refused d n) ≡ no_sums
    pub clear-sums : (d : D) → sums (cleared d) ≡ no_sums
    pub clear-stream : (d : D) → Good d → (stream_of (state_of (cleared d))).has_previous ≡ false

  module _ (Good : D → Type 0) (k : DetectorLaws stream_of settings bad stepped refused cleared number state_of Good) (q : SumsLaws Good) where
    module _ (d : D) (u w h : ℕ) (p : Planes) (ts : Timestamp) (m : Memory) (g : Good d) (t : Ongoing) (f : Follows (stream_of d) t) where
      abbrev answer : A
      answer = answered_by (stepped d ts) (refused d) (pictured (stream_of d) (settings d) (bad d) u w h p m).answer

      abbrev brought : PictureAnswer
      brought = (accepted (stream_of d) (settings d) w h p m.store).answer

      same_number : eqb (frame_number (bad d) u w h m) 0 ≡ eqb (frame_number false u w h m) 0
      same_number = ap (λ (b : Bool). eqb (frame_number b u w h m) 0) (k.not-bad d g)

      brought-sums : brought.sums ≡ sums_of (settings d) (goes_on t w h) w h p m.store
      unfolding accepted
      brought-sums = ap (λ (b : Bool). sums_of (settings d) b w h p m.store) (scored-is (stream_of d) t w h f)

      no-sums : (b : Bool) → b ≡ false → sums_of (settings d) b w h p m.store ≡ no_sums
      unfolding frame_sums
      no-sums b e = rw e

      all-pixels : (b : Bool) → b ≡ true → (sums_of (settings d) b w h p m.store).count ≡ w * h
      unfolding frame_sums
      all-pixels b e = rw e

      brought-follows : Follows brought.stream (of_size w h)
      unfolding accepted next_stream
      brought-follows = (refl, (refl, refl))

      -- an accepted frame
      taken : eqb (frame_number false u w h m) 0 ≡ true → answer ≡ stepped d ts brought
      taken e = if-accepted (stream_of d) (settings d) (bad d) (stepped d ts) (refused d) u w h p m (same_number ∙ e)

      taken-sums : eqb (frame_number false u w h m) 0 ≡ true → sums answer ≡ sums_of (settings d) (goes_on t w h) w h p m.store
      taken-sums e = ap sums (taken e) ∙ q.step-sums d ts brought ∙ brought-sums

      taken-follows : eqb (frame_number false u w h m) 0 ≡ true → Follows (stream_of (state_of answer)) (of_size w h)
      taken-follows e = subst (λ (s : Stream). Follows s (of_size w h)) (sym (ap (λ (a : A). stream_of (state_of a)) (taken e) ∙ q.step-stream d ts brought)) brought-follows

      -- a refused one
      left : eqb (frame_number false u w h m) 0 ≡ false → answer ≡ refused d (frame_number (bad d) u w h m)
      left e = if-refused (stream_of d) (settings d) (bad d) (stepped d ts) (refused d) u w h p m (same_number ∙ e)

      frame_at : (c : Call) → has_earlier t c ≡ (not (not (eqb (frame_number false u w h m) 0)) && goes_on t w h) → pixels_of c ≡ w * h
          → ongoing_after t c ≡ cond (not (eqb (frame_number false u w h m) 0)) t (of_size w h)
          → SumsAt t c (sums answer) × Follows (stream_of (state_of answer)) (ongoing_after t c)
      frame_at c earlier pixels next = by_zero (eqb (frame_number false u w h m) 0) refl
        where
          by_zero : (b : Bool) → eqb (frame_number false u w h m) 0 ≡ b → SumsAt t c (sums answer) × Follows (stream_of (state_of answer)) (ongoing_after t c)
          by_zero true e =
              let goes : has_earlier t c ≡ goes_on t w h = earlier ∙ ap (λ (b : Bool). not (not b) && goes_on t w h) e in
              let to : ongoing_after t c ≡ of_size w h = next ∙ ap (λ (b : Bool). cond (not b) t (of_size w h)) e in (
                record {
                  first = λ x. taken-sums e ∙ no-sums (goes_on t w h) (sym goes ∙ x);
                  later = λ x. ap (λ (y : Sums). y.count) (taken-sums e) ∙ all-pixels (goes_on t w h) (sym goes ∙ x) ∙ sym pixels;
                },
                subst (λ (z : Ongoing). Follows (stream_of (state_of answer)) z) (sym to) (taken-follows e),
              )
          by_zero false e =
              let never : has_earlier t c ≡ false = earlier ∙ ap (λ (b : Bool). not (not b) && goes_on t w h) e in
              let to : ongoing_after t c ≡ t = next ∙ ap (λ (b : Bool). cond (not b) t (of_size w h)) e in
              let kept : stream_of (state_of answer) ≡ stream_of d = ap (λ (a : A). stream_of (state_of a)) (left e) ∙ ap stream_of (k.refused-state d _) in (
                record {
                  first = λ _. ap sums (left e) ∙ q.refused-sums d _;
                  later = λ x. absurd (true≢false (sym x ∙ never));
                },
                subst (λ (z : Ongoing). Follows (stream_of (state_of answer)) z) (sym to) (subst (λ (s : Stream). Follows s t) (sym kept) f),
              )

    call_at : (d : D) (c : Call) → Good d → (t : Ongoing) → Follows (stream_of d) t
        → SumsAt t c (sums (called d c).answer) × Follows (stream_of (state_of (called d c).answer)) (ongoing_after t c)
    call_at d (luma plane w h stride ts m) g t f = frame_at d _ w h _ ts m g t f (luma plane w h stride ts m) refl refl refl
    call_at d (bgr pixels w h stride ts m) g t f = frame_at d _ w h _ ts m g t f (bgr pixels w h stride ts m) refl refl refl
    call_at d (hsv hs ss vs w h stride ts m) g t f = frame_at d _ w h _ ts m g t f (hsv hs ss vs w h stride ts m) refl refl refl
    call_at d clear g t f = (record { first = λ _. q.clear-sums d; later = λ x. absurd (true≢false (sym x)) }, q.clear-stream d g)

    pub sums-hold : (d : D) → Good d → (t : Ongoing) → Follows (stream_of d) t → (cs : List Call) → SumsHold sums t (run_from called state_of d cs)
    sums-hold d g t f [] = tt
    sums-hold d g t f (c ∷ cs) =
        let a = call_at d c g t f in
        (a.0, sums-hold (state_of (called d c).answer) (stays stream_of settings bad stepped refused cleared number state_of Good k d c g) (ongoing_after t c) a.1 cs)
