-- THE THEOREM: what `specs/Claim.antt` states holds of every list of content calls under settings that are accepted. Assumes nothing else.
use mathlib.Core.Path.{◌≡◌, refl, ap}
use mathlib.Core.Bool.{Bool, true, false, cond}
use mathlib.Core.List.{List, [], ◌∷◌, map}
use lib.Dec.{eqb}
use lib.Ieee.{le, of_int, is_nan}
use borrow.Author.Tests.{eqb-true}
use Rattle.score.specs.Settings.{settings_refusal, any_too_heavy, too_heavy, all_zero}
use Rattle.light_plan.specs.Rows.{rows_refusal}
use Rattle.filter.specs.Calls.{◌brought◌}
use Rattle.filter.specs.Claim.{StretchesHold}
use Rattle.filter.specs.Seen.{seen_by_filter}
use Rattle.filter.proofs.Acts.{acts-holds}
use Rattle.frame_call.specs.Call.{Call}
use Rattle.frame_call.specs.Run.{run_from}
use Rattle.frame_call.proofs.Runs.{run-claim, stays as runs-stay}
use Rattle.content.specs.declared.Options.{Options}
use Rattle.content.specs.declared.Detector.{Detector}
use Rattle.content.specs.Options.{defaults, filter_options, options_refusal}
use Rattle.content.specs.State.{Answer, fresh, settled}
use Rattle.content.specs.Step.{called}
use Rattle.content_claim.specs.Claim.{view_of, content_run, with_cut, ContentClaim}
use Rattle.content_claim.proofs.Good.{Good, fresh-good, laws}
use Rattle.content_claim.proofs.Views.{kept, acts}

abbrev next : Detector → Call → Detector
next d c = (called d c).answer.detector

module _ (o : Options) (ok : options_refusal o ≡ 0) where
  pub stays : (d : Detector) (c : Call) → Good o d → Good o (next d c)
  stays = runs-stay _ _ _ _ _ _ _ _ (Good o) (laws o ok)

  -- the run, as `filter`'s law sees it
  seen-is : (d : Detector) (cs : List Call)
      → seen_by_filter next (λ (_ : Detector) (c : Call). view_of o c) (λ (d : Detector) (c : Call). (called d c).answer.cut) d cs ≡ map (with_cut o) (run_from called (λ (a : Answer). a.detector) d cs)
  seen-is d [] = refl
  seen-is d (c ∷ cs) = ap (λ xs. (view_of o c brought (called d c).answer.cut) ∷ xs) (seen-is (next d c) cs)

  holds : (cs : List Call) → StretchesHold (filter_options o) (map (with_cut o) (content_run o cs))
  holds cs =
      rw (← seen-is (fresh o) cs)
      (acts-holds next (λ _ c. view_of o c) (Good o) stays (filter_options o) (λ d c. (called d c).answer.cut) kept (acts o ok)
      (fresh o) (fresh-good o) refl cs)

  settled_is : (settled o).detector ≡ fresh o
  unfolding settled
  settled_is = rw ok

pub content-claim : (o : Options) → options_refusal o ≡ 0 → (calls : List Call) → ContentClaim o calls
content-claim o ok calls =
    record {
      start = settled_is o ok;
      each-call = run-claim _ _ _ _ _ _ _ _ (Good o) (laws o ok) (fresh o) (fresh-good o) calls;
      holds = holds o ok calls;
    }

-- the defaults are accepted
pub defaults-accepted : options_refusal defaults ≡ 0
unfolding settings_refusal any_too_heavy too_heavy all_zero le of_int is_nan rows_refusal
defaults-accepted = refl

-- a settings call, accepted or refused: the claim holds under the settings that it returned
pub any-settings : (o : Options) (calls : List Call) → ((settled o).detector ≡ fresh (settled o).detector.options) × ContentClaim (settled o).detector.options calls
unfolding settled
any-settings o calls = (refl, by-refusal (eqb (options_refusal o) 0) refl)
  where
    by-refusal : (b : Bool) → eqb (options_refusal o) 0 ≡ b → ContentClaim (cond b o defaults) calls
    by-refusal true e = content-claim o (eqb-true (options_refusal o) 0 e) calls
    by-refusal false e = content-claim defaults defaults-accepted calls
