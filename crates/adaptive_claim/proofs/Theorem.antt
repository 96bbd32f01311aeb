-- THE THEOREM: what `specs/Claim.antt` states holds of every list of adaptive calls under settings that are accepted. Assumes nothing else.
use Rattle.std.proofs.Common.{Float, None, Option, Some}
use mathlib.Core.Path.{◌≡◌, refl, ap, ◌∙◌}
use mathlib.Core.Bool.{Bool, true, false, cond}
use mathlib.Core.List.{List, [], ◌∷◌}
use Prim.Native.Nat.{ℕ}
use lib.Dec.{eqb}
use lib.Ieee.{le, of_int, is_nan}
use borrow.Author.Tests.{eqb-true}
use Rattle.laws.specs.Lists.{All}
use Rattle.timestamp.specs.declared.Timestamp.{Timestamp}
use Rattle.score.specs.Settings.{settings_refusal, any_too_heavy, too_heavy, all_zero}
use Rattle.scoring.specs.Planes.{Planes}
use Rattle.filter.specs.Claim.{cuts_in, KeepsDistance}
use Rattle.window.specs.Calls.{refused, Answered, ◌brought◌}
use Rattle.window.specs.Claim.{joined_part, from_clear_to_clear as window_parts}
use Rattle.window.specs.Seen.{seen_by_window}
use Rattle.window.proofs.Acts.{acts-holds}
use Rattle.frame_call.specs.Call.{Memory, Call, luma, bgr, hsv, clear, by_call, frame_number}
use Rattle.frame_call.specs.Run.{run_from}
use Rattle.frame_call.proofs.Runs.{run-claim, stays as runs-stay}
use Rattle.adaptive.specs.declared.Options.{Options}
use Rattle.adaptive.specs.declared.Detector.{Detector}
use Rattle.adaptive.specs.Options.{defaults, window_options, options_refusal}
use Rattle.adaptive.specs.State.{Answer, fresh, bad_state, settled}
use Rattle.adaptive.specs.Step.{called}
use Rattle.adaptive_claim.specs.Claim.{adaptive_run, from_clear_to_clear, AdaptiveClaim}
use Rattle.adaptive_claim.proofs.Good.{Good, fresh-good, laws}
use Rattle.adaptive_claim.proofs.Views.{scored_if, after, frame_view, view_of, acts}

abbrev next : Detector → Call → Detector
next d c = (called d c).answer.detector

-- an answer, before the parts of those after it
abbrev pub with_answer : Call → Option Timestamp → List (List (Option Timestamp)) → List (List (Option Timestamp))
with_answer c a parts = by_call (λ u w h p ts m. joined_part a parts) ((a ∷ []) ∷ parts) c

-- ---- the run, as `window`'s law sees it: both divide at the clears

not-clear : (d : Detector) (u w h : ℕ) (p : Planes) (ts : Timestamp) (m : Memory) (a : Option Timestamp) (xs : List (Answered (Option Timestamp)))
    → window_parts ((frame_view d u w h p ts m brought a) ∷ xs) ≡ joined_part a (window_parts xs)
not-clear d u w h p ts m a xs = by_zero (eqb (frame_number (bad_state d) u w h m) 0) (after d u w h p ts m).stream.last_score
  where
    by_zero : (b : Bool) (x : Option Float) → window_parts ((cond b (scored_if x ts) refused brought a) ∷ xs) ≡ joined_part a (window_parts xs)
    by_zero true None = refl
    by_zero true (Some x) = refl
    by_zero false x = refl

one-part : (d : Detector) (c : Call) (a : Option Timestamp) (xs : List (Answered (Option Timestamp))) → window_parts ((view_of d c brought a) ∷ xs) ≡ with_answer c a (window_parts xs)
one-part d (luma plane w h stride ts m) a xs = not-clear d _ _ _ _ ts m a xs
one-part d (bgr pixels w h stride ts m) a xs = not-clear d _ _ _ _ ts m a xs
one-part d (hsv hs ss vs w h stride ts m) a xs = not-clear d _ _ _ _ ts m a xs
one-part d clear a xs = refl

seen-is : (d : Detector) (cs : List Call)
    → window_parts (seen_by_window next view_of (λ (d : Detector) (c : Call). (called d c).answer.cut) d cs) ≡ from_clear_to_clear (run_from called (λ (a : Answer). a.detector) d cs)
seen-is d [] = refl
seen-is d (c ∷ cs) = one-part d c (called d c).answer.cut _ ∙ ap (λ ps. with_answer c (called d c).answer.cut ps) (seen-is (next d c) cs)

module _ (o : Options) (ok : options_refusal o ≡ 0) where
  pub stays : (d : Detector) (c : Call) → Good o d → Good o (next d c)
  stays = runs-stay _ _ _ _ _ _ _ _ (Good o) (laws o ok)

  distance : (cs : List Call) → All (λ (answers : List (Option Timestamp)). KeepsDistance o.min_duration (cuts_in answers)) (from_clear_to_clear (adaptive_run o cs))
  distance cs =
      rw (← seen-is (fresh o) cs)
      (acts-holds next view_of (Good o) stays (window_options o) (λ d c. (called d c).answer.cut) (λ d. d.window) (acts o ok)
      (fresh o) (fresh-good o) refl cs)

  settled_is : (settled o).detector ≡ fresh o
  unfolding settled
  settled_is = rw ok

pub adaptive-claim : (o : Options) → options_refusal o ≡ 0 → (calls : List Call) → AdaptiveClaim o calls
adaptive-claim o ok calls =
    record {
      start = settled_is o ok;
      each-call = run-claim _ _ _ _ _ _ _ _ (Good o) (laws o ok) (fresh o) (fresh-good o) calls;
      distance = distance o ok calls;
    }

-- the defaults are accepted
pub defaults-accepted : options_refusal defaults ≡ 0
unfolding options_refusal settings_refusal any_too_heavy too_heavy all_zero le of_int is_nan
defaults-accepted = refl

-- a settings call, accepted or refused: the claim holds under the settings that it returned
pub any-settings : (o : Options) (calls : List Call) → ((settled o).detector ≡ fresh (settled o).detector.options) × AdaptiveClaim (settled o).detector.options calls
unfolding settled
any-settings o calls = (refl, by-refusal (eqb (options_refusal o) 0) refl)
  where
    by-refusal : (b : Bool) → eqb (options_refusal o) 0 ≡ b → AdaptiveClaim (cond b o defaults) calls
    by-refusal true e = adaptive-claim o (eqb-true (options_refusal o) 0 e) calls
    by-refusal false e = adaptive-claim defaults defaults-accepted calls
