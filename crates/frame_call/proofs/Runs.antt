-- What holds of every list of calls, for a detector whose calls are `outcome_of`'s. Assumes nothing else.
use mathlib.Core.Path.{◌≡◌, refl, sym, ap, subst, ◌∙◌}
use mathlib.Core.Bool.{Bool, true, false, cond, not}
use mathlib.Core.List.{List, [], ◌∷◌}
use Prim.Native.Nat.{ℕ}
use lib.Dec.{eqb}
use lib.ListN.{length}
use native.Mathlib.Decide.{ℕ_discrete}
use native.Mathlib.Omega.{arith}
use borrow.Author.Tests.{le-ltb, eqb-true, ne_eqb, not-true}
use Rattle.timestamp.specs.declared.Timestamp.{Timestamp}
use Rattle.frame.specs.Checks.{too_large}
use Rattle.frame.proofs.Accepted.{Accepted, accepted-luma, accepted-bgr, accepted-hsv}
use Rattle.scoring.specs.Planes.{Planes}
use Rattle.stream.specs.declared.Stream.{Stream}
use Rattle.stream.specs.Stream.{next_stream}
use Rattle.laws.specs.Lists.{All, leave_out}
use Rattle.frame_call.specs.declared.PictureOptions.{PictureOptions}
use Rattle.frame_call.specs.Call.{PictureAnswer, Memory, Call, luma, bgr, hsv, clear, call_refusal, frame_number, Outcome, accepted, pictured, answered_by, outcome_of}
use Rattle.frame_call.specs.Run.{own_number, is_refused, MadeCall, run_from, RunClaim}
use Rattle.frame_call.proofs.Numbers.{own_below}

-- ---- the answer to a frame, accepted and refused

module _ {A : Type 0} (s : Stream) (o : PictureOptions) (bad : Bool) (stepped : PictureAnswer → A) (refused : ℕ → A) (u w h : ℕ) (p : Planes) (m : Memory) where
  pub if-accepted : eqb (frame_number bad u w h m) 0 ≡ true → answered_by stepped refused (pictured s o bad u w h p m).answer ≡ stepped (accepted s o w h p m.store).answer
  unfolding pictured accepted
  if-accepted e = rw e

  pub if-refused : eqb (frame_number bad u w h m) 0 ≡ false → answered_by stepped refused (pictured s o bad u w h p m).answer ≡ refused (frame_number bad u w h m)
  unfolding pictured
  if-refused e = rw (e, e)

-- a call that is not refused: its frame is not
passed : (bad : Bool) (f m : ℕ) → call_refusal bad f m ≡ 0 → f ≡ 0
unfolding call_refusal
passed true f m e = absurd (omega arith)
passed false f m e = by_zero (ℕ_discrete f 0)
  where
    by_zero : Dec (f ≡ 0) → f ≡ 0
    by_zero (yes z) = z
    by_zero (no z) = rw (ne_eqb f 0 z) at e

-- a frame that passes its check has sides of at most 4,096
abbrev Sides : (refusal width height : ℕ) → Type 0
Sides u w h = u ≡ 0 → too_large w h ≡ false

small : {row bytes w h stride : ℕ} → Accepted row bytes w h stride → too_large w h ≡ false
small {w = w} {h = h} a = simp (le-ltb 4096 w a.wide, le-ltb 4096 h a.high)

-- ---- a detector

module _ {D A : Type 0} (stream_of : D → Stream) (settings : D → PictureOptions) (bad : D → Bool)
    (stepped : D → Timestamp → PictureAnswer → A) (refused : D → ℕ → A) (cleared : D → A) (number : A → ℕ) (state_of : A → D) where
  abbrev called : D → Call → Outcome A
  called d c = outcome_of (stream_of d) (settings d) (bad d) (stepped d) (refused d) (cleared d) c

  -- Good is what holds of every state of a run; this is what a detector shows of it, and of its answers
  pub record DetectorLaws (Good : D → Type 0) : Type 0 where
    pub not-bad : (d : D) → Good d → bad d ≡ false
    pub step-number : (d : D) (ts : Timestamp) (p : PictureAnswer) → number (stepped d ts p) ≡ 0
    pub step_stays : (d : D) (ts : Timestamp) (p : PictureAnswer) → too_large p.stream.width p.stream.height ≡ false → Good d → Good (state_of (stepped d ts p))
    pub refused-number : (d : D) (n : ℕ) → number (refused d n) ≡ n
    pub refused-state : (d : D) (n : ℕ) → state_of (refused d n) ≡ d
    pub clear-number : (d : D) → Good d → number (cleared d) ≡ 0
    pub clear_stays : (d : D) → Good d → Good (state_of (cleared d))

  module _ (Good : D → Type 0) (k : DetectorLaws Good) where
    module _ (d : D) (u w h : ℕ) (p : Planes) (ts : Timestamp) (m : Memory) (g : Good d) where
      abbrev answer : A
      answer = answered_by (stepped d ts) (refused d) (pictured (stream_of d) (settings d) (bad d) u w h p m).answer

      pub same_number : frame_number (bad d) u w h m ≡ frame_number false u w h m
      same_number = ap (λ (b : Bool). frame_number b u w h m) (k.not-bad d g)

      number_is : number answer ≡ frame_number false u w h m
      number_is = by_zero (eqb (frame_number (bad d) u w h m) 0) refl ∙ same_number
        where
          by_zero : (b : Bool) → eqb (frame_number (bad d) u w h m) 0 ≡ b → number answer ≡ frame_number (bad d) u w h m
          by_zero true e = rw (if-accepted (stream_of d) (settings d) (bad d) (stepped d ts) (refused d) u w h p m e) (k.step-number d ts _ ∙ sym (eqb-true _ 0 e))
          by_zero false e = rw (if-refused (stream_of d) (settings d) (bad d) (stepped d ts) (refused d) u w h p m e) (k.refused-number d _)

      state-is : not (eqb (frame_number false u w h m) 0) ≡ true → state_of answer ≡ d
      state-is e =
          let n : eqb (frame_number (bad d) u w h m) 0 ≡ false = ap (λ (x : ℕ). eqb x 0) same_number ∙ not-true (eqb (frame_number false u w h m) 0) e in
          ap state_of (if-refused (stream_of d) (settings d) (bad d) (stepped d ts) (refused d) u w h p m n) ∙ k.refused-state d _

      frame-stays : Sides u w h → Good (state_of answer)
      unfolding accepted next_stream
      frame-stays sides = by_zero (eqb (frame_number (bad d) u w h m) 0) refl
        where
          taken : eqb (frame_number (bad d) u w h m) 0 ≡ true → Good (state_of (stepped d ts (accepted (stream_of d) (settings d) w h p m.store).answer))
          taken e = k.step_stays d ts _ (sides (passed (bad d) _ _ (eqb-true _ 0 e))) g

          by_zero : (b : Bool) → eqb (frame_number (bad d) u w h m) 0 ≡ b → Good (state_of answer)
          by_zero true e = rw (if-accepted (stream_of d) (settings d) (bad d) (stepped d ts) (refused d) u w h p m e) (taken e)
          by_zero false e = rw (if-refused (stream_of d) (settings d) (bad d) (stepped d ts) (refused d) u w h p m e, k.refused-state d _) g

    answered : (d : D) (c : Call) → Good d → number (called d c).answer ≡ own_number c
    answered d (luma plane w h stride ts m) g = number_is d _ _ _ _ ts m g
    answered d (bgr pixels w h stride ts m) g = number_is d _ _ _ _ ts m g
    answered d (hsv hs ss vs w h stride ts m) g = number_is d _ _ _ _ ts m g
    answered d clear g = k.clear-number d g

    -- a refused call returns the old state
    same : (d : D) (c : Call) → Good d → is_refused c ≡ true → state_of (called d c).answer ≡ d
    same d (luma plane w h stride ts m) g e = state-is d _ _ _ _ ts m g e
    same d (bgr pixels w h stride ts m) g e = state-is d _ _ _ _ ts m g e
    same d (hsv hs ss vs w h stride ts m) g e = state-is d _ _ _ _ ts m g e
    same d clear g e = cc

    pub stays : (d : D) (c : Call) → Good d → Good (state_of (called d c).answer)
    stays d (luma plane w h stride ts m) g = frame-stays d _ _ _ _ ts m g (λ e. small (accepted-luma (length plane) w h stride e))
    stays d (bgr pixels w h stride ts m) g = frame-stays d _ _ _ _ ts m g (λ e. small (accepted-bgr (length pixels) w h stride e))
    stays d (hsv hs ss vs w h stride ts m) g =
        frame-stays d _ _ _ _ ts m g (λ e. small (accepted-hsv (length hs) (length ss) (length vs) w h stride e).0)
    stays d clear g = k.clear_stays d g

    abbrev run : D → List Call → List (MadeCall A)
    run d cs = run_from called state_of d cs

    -- what holds of each call at a good state holds of each call of a run
    each : (P : MadeCall A → Type 0) → ((d : D) (c : Call) → Good d → P (record { call = c; outcome = called d c }))
        → (d : D) → Good d → (cs : List Call) → All P (run d cs)
    each P p d g [] = tt
    each P p d g (c ∷ cs) = (p d c g, each P p (state_of (called d c).answer) (stays d c g) cs)

    left_out : (d : D) → Good d → (cs : List Call) → run d (leave_out is_refused cs) ≡ leave_out (λ (x : MadeCall A). is_refused x.call) (run d cs)
    left_out d g [] = refl
    left_out d g (c ∷ cs) = by-refused (is_refused c) refl (left_out (state_of (called d c).answer) (stays d c g) cs)
      where
        rest : List Call
        rest = leave_out is_refused cs

        after : List (MadeCall A)
        after = leave_out (λ (x : MadeCall A). is_refused x.call) (run (state_of (called d c).answer) cs)

        by-refused : (b : Bool) → is_refused c ≡ b → run (state_of (called d c).answer) rest ≡ after
            → run d (cond b rest (c ∷ rest)) ≡ cond b after (record { call = c; outcome = called d c } ∷ after)
        by-refused true e ih = subst (λ (u : D). run u rest ≡ after) (same d c g e) ih
        by-refused false e ih = ap (λ xs. record { call = c; outcome = called d c } ∷ xs) ih

    pub run-claim : (d : D) → Good d → (calls : List Call) → RunClaim called state_of number d calls
    run-claim d g calls =
        record {
          numbers = each _ answered d g calls;
          never-bad = each _ (λ d c g. rw (answered d c g) (own_below c)) d g calls;
          left_out = left_out d g calls;
        }
