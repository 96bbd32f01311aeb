-- The whole sums of an answer give its components and its score (RULES 6.8), and when they are 0 (RULES 4.4, 4.5), for a detector whose calls are
-- `outcome_of`'s and whose step shows the sums, the score and the components of the frame.
use Rattle.std.proofs.Common.{None, Option, Some}
use mathlib.Core.Path.{◌≡◌, refl, sym, ap, subst}
use mathlib.Core.Bool.{Bool, true, false, cond}
use mathlib.Core.List.{List}
use Prim.Native.Nat.{ℕ, ◌*◌}
use lib.Dec.{eqb}
use lib.Ieee.{Float}
use Rattle.laws.specs.Floats.{float}
use Rattle.timestamp.specs.declared.Timestamp.{Timestamp}
use Rattle.arch_planes.specs.Difference.{mean_of}
use Rattle.score.specs.declared.Components.{Components}
use Rattle.score.specs.Scores.{edges_enabled, score_of}
use Rattle.scoring.specs.Planes.{Planes}
use Rattle.scoring.specs.Sums.{frame_sums}
use Rattle.scoring.proofs.NoPixels.{no-pixels, no_edges}
use Rattle.stream.specs.declared.Stream.{Stream}
use Rattle.stream.specs.declared.Sums.{Sums}
use Rattle.stream.specs.Stream.{no_sums, components_of, components_shown, is_scored, next_stream, FromSums}
use Rattle.frame_call.specs.declared.PictureOptions.{PictureOptions}
use Rattle.frame_call.specs.Call.{PictureAnswer, Memory, Call, luma, bgr, hsv, clear, frame_number, sums_of, accepted, pictured, answered_by, outcome_of, Sized}
use Rattle.frame_call.specs.Earlier.{pixels_of}
use Rattle.frame_call.proofs.Planes.{luma_sized, bgr_sized, hsv_sized}
use Rattle.frame_call.proofs.Runs.{if-accepted, if-refused}

-- ---- a score that is there, and one that is not

abbrev IsNone : Option Float → Type 0
IsNone None = Unit {0}
IsNone (Some x) = ⊥

none-some : (x : Float) → None ≡ Some x → ⊥
none-some x e = subst IsNone e tt

abbrev value_of : Option Float → Float
value_of None = float 0
value_of (Some x) = x

-- no score, no components and no sums: a refused call, and `clear`
pub none_from : (weights : Components) → FromSums weights None (components_shown None) no_sums
unfolding components_of mean_of
none_from weights = record { means = refl; scored = λ x e. absurd (none-some x e); unscored = λ _. refl }

-- ---- an accepted frame

-- what a frame brings shows the score and the components that its sums give
abbrev pub PictureFrom : Components → PictureAnswer → Type 0
PictureFrom weights p = FromSums weights p.stream.last_score (components_shown p.stream.last_components) p.sums

module _ (s : Stream) (o : PictureOptions) (w h : ℕ) (p : Planes) (store : List ℕ) where
  pub accepted-from : PictureFrom o.weights (accepted s o w h p store).answer
  unfolding accepted next_stream frame_sums
  accepted-from = by-scored (is_scored s w h)
    where
      by-scored : (b : Bool) → let sums : Sums = sums_of o b w h p store in
          FromSums o.weights (cond b (Some (score_of (components_of sums) o.weights)) None) (components_shown (cond b (Some (components_of sums)) None)) sums
      by-scored true = record { means = refl; scored = λ x e. sym (ap value_of e); unscored = λ e. absurd (none-some _ (sym e)) }
      by-scored false = none_from o.weights

-- ---- any call of a detector

module _ {A : Type 0} (s : Stream) (o : PictureOptions) (bad : Bool) (stepped : Timestamp → PictureAnswer → A) (refused : ℕ → A) (cleared : A)
    (score : A → Option Float) (deltas : A → Components) (sums : A → Sums) where
  -- an answer's score and components are those that its sums give
  abbrev From : A → Type 0
  From a = FromSums o.weights (score a) (deltas a) (sums a)

  module _ (step_from : (ts : Timestamp) (p : PictureAnswer) → PictureFrom o.weights p → From (stepped ts p)) (refused-from : (n : ℕ) → From (refused n)) (cleared-from : From cleared) where
    pub frame_from : (u w h : ℕ) (p : Planes) (ts : Timestamp) (m : Memory) → From (answered_by (stepped ts) refused (pictured s o bad u w h p m).answer)
    frame_from u w h p ts m = by_zero (eqb (frame_number bad u w h m) 0) refl
      where
        by_zero : (b : Bool) → eqb (frame_number bad u w h m) 0 ≡ b → From (answered_by (stepped ts) refused (pictured s o bad u w h p m).answer)
        by_zero true e = rw (if-accepted s o bad (stepped ts) refused u w h p m e) (step_from ts _ (accepted-from s o w h p m.store))
        by_zero false e = rw (if-refused s o bad (stepped ts) refused u w h p m e) (refused-from _)

    pub call_from : (c : Call) → From (outcome_of s o bad stepped refused cleared c).answer
    call_from (luma plane w h stride ts m) = frame_from _ w h _ ts m
    call_from (bgr pixels w h stride ts m) = frame_from _ w h _ ts m
    call_from (hsv hs ss vs w h stride ts m) = frame_from _ w h _ ts m
    call_from clear = cleared-from

-- ---- where sums are 0

module _ {A : Type 0} (s : Stream) (o : PictureOptions) (bad : Bool) (stepped : Timestamp → PictureAnswer → A) (refused : ℕ → A) (cleared : A) (sums : A → Sums)
    (step-sums : (ts : Timestamp) (p : PictureAnswer) → sums (stepped ts p) ≡ p.sums) (refused-sums : (n : ℕ) → sums (refused n) ≡ no_sums) (cleared-sums : sums cleared ≡ no_sums) where
  -- what holds of no sums, and of those of the frame if it is accepted, holds of the answer's
  frame-sums : (P : Sums → Type 0) → P no_sums → (u w h : ℕ) (p : Planes) (ts : Timestamp) (m : Memory) → P (accepted s o w h p m.store).answer.sums
      → P (sums (answered_by (stepped ts) refused (pictured s o bad u w h p m).answer))
  frame-sums P none u w h p ts m some = by_zero (eqb (frame_number bad u w h m) 0) refl
    where
      by_zero : (b : Bool) → eqb (frame_number bad u w h m) 0 ≡ b → P (sums (answered_by (stepped ts) refused (pictured s o bad u w h p m).answer))
      by_zero true e = rw (if-accepted s o bad (stepped ts) refused u w h p m e, step-sums ts (accepted s o w h p m.store).answer) some
      by_zero false e = rw (if-refused s o bad (stepped ts) refused u w h p m e, refused-sums (frame_number bad u w h m)) none

  empty : (u w h : ℕ) (p : Planes) (ts : Timestamp) (m : Memory) → Sized (w * h) p → w * h ≡ 0 → sums (answered_by (stepped ts) refused (pictured s o bad u w h p m).answer) ≡ no_sums
  unfolding accepted
  empty u w h p ts m z e = frame-sums (λ (x : Sums). x ≡ no_sums) refl u w h p ts m (no-pixels _ _ _ w h p m.store z.hues z.saturations z.lumas e)

  -- a frame without pixels, and `clear`, bring no sums
  pub no-pixels-no-sums : (c : Call) → pixels_of c ≡ 0 → sums (outcome_of s o bad stepped refused cleared c).answer ≡ no_sums
  no-pixels-no-sums (luma plane w h stride ts m) e = empty _ w h _ ts m (luma_sized plane w h stride) e
  no-pixels-no-sums (bgr pixels w h stride ts m) e = empty _ w h _ ts m (bgr_sized pixels w h stride) e
  no-pixels-no-sums (hsv hs ss vs w h stride ts m) e = empty _ w h _ ts m (hsv_sized hs ss vs w h stride) e
  no-pixels-no-sums clear e = cleared-sums

  flat : edges_enabled o.weights ≡ false → (u w h : ℕ) (p : Planes) (ts : Timestamp) (m : Memory) → (sums (answered_by (stepped ts) refused (pictured s o bad u w h p m).answer)).edges ≡ 0
  unfolding accepted
  flat e u w h p ts m = frame-sums (λ (x : Sums). x.edges ≡ 0) refl u w h p ts m (rw e (no_edges _ _ w h p m.store))

  -- with edges off there is no edge sum
  pub edges-off : edges_enabled o.weights ≡ false → (c : Call) → (sums (outcome_of s o bad stepped refused cleared c).answer).edges ≡ 0
  edges-off e (luma plane w h stride ts m) = flat e _ w h _ ts m
  edges-off e (bgr pixels w h stride ts m) = flat e _ w h _ ts m
  edges-off e (hsv hs ss vs w h stride ts m) = flat e _ w h _ ts m
  edges-off e clear = ap (λ (x : Sums). x.edges) cleared-sums
