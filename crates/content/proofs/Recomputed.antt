-- A reader who has an answer of the content detector and its weights works out the components and the score again, from the answer's whole sums and
-- its count alone (RULES 6.8). It holds of any call at any state.
use mathlib.Core.Path.{◌≡◌, refl}
use mathlib.Core.Bool.{Bool, true, false}
use Prim.Native.Nat.{ℕ}
use Rattle.score.specs.Scores.{edges_enabled}
use Rattle.stream.specs.Stream.{no_sums, FromSums}
use Rattle.frame_call.specs.Call.{Call}
use Rattle.frame_call.specs.Earlier.{pixels_of}
use Rattle.frame_call.proofs.Sums.{none_from, call_from, no-pixels-no-sums, edges-off}
use Rattle.content.specs.declared.Detector.{Detector}
use Rattle.content.specs.Options.{picture_options}
use Rattle.content.specs.State.{Answer, bad_state, refused_answer, cleared_answer}
use Rattle.content.specs.Step.{stepped, called}

-- an answer's components and score are those that its sums give, under the detector's weights
abbrev pub Recomputed : Detector → Answer → Type 0
Recomputed d a = FromSums d.options.weights a.score a.components a.sums

-- what holds of each answer without score and sums holds of that to `clear`, which is one, accepted or refused
cleared-as : (P : Answer → Type 0) → ((e : Detector) (n : ℕ) → P (refused_answer e n)) → (d : Detector) → P (cleared_answer d)
unfolding cleared_answer
cleared-as P each d = by-bad (bad_state d) refl
  where
    by-bad : (b : Bool) → bad_state d ≡ b → P (cleared_answer d)
    by-bad true e = rw e (each _ _)
    by-bad false e = rw e (each _ _)

-- the theorem
pub recomputed : (d : Detector) (c : Call) → Recomputed d (called d c).answer
unfolding stepped
recomputed d c =
    call_from d.stream (picture_options d.options) (bad_state d) (stepped d) (refused_answer d) (cleared_answer d)
    (λ (a : Answer). a.score) (λ (a : Answer). a.components) (λ (a : Answer). a.sums)
    (λ ts p from. from) (λ n. none_from d.options.weights) (cleared-as (Recomputed d) (λ e n. none_from d.options.weights) d) c

-- ---- where an answer's sums are 0 (RULES 4.4, 4.5); that they are where it has no score is in `FromSums`

pub cleared-sums : (d : Detector) → (cleared_answer d).sums ≡ no_sums
cleared-sums d = cleared-as (λ (a : Answer). a.sums ≡ no_sums) (λ e n. refl) d

-- a frame without pixels, scored or not
pub no-pixels : (d : Detector) (c : Call) → pixels_of c ≡ 0 → (called d c).answer.sums ≡ no_sums
unfolding stepped
no-pixels d c e =
    no-pixels-no-sums d.stream (picture_options d.options) (bad_state d) (stepped d) (refused_answer d) (cleared_answer d) (λ (a : Answer). a.sums)
    (λ ts p. refl) (λ n. refl) (cleared-sums d) c e

-- the edge sum, with edges off
pub no-edge-sum : (d : Detector) (c : Call) → edges_enabled d.options.weights ≡ false → (called d c).answer.sums.edges ≡ 0
unfolding stepped
no-edge-sum d c e =
    edges-off d.stream (picture_options d.options) (bad_state d) (stepped d) (refused_answer d) (cleared_answer d) (λ (a : Answer). a.sums)
    (λ ts p. refl) (λ n. refl) (cleared-sums d) e c
