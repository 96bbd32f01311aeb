-- In every list of adaptive calls under settings that are accepted, a frame has sums exactly where it has an earlier frame in its stretch (RULES 4.5,
-- 14.7). Assumes nothing else.
use mathlib.Core.Path.{◌≡◌, refl}
use mathlib.Core.List.{List}
use Rattle.frame_call.specs.Call.{Call}
use Rattle.frame_call.specs.Earlier.{none_yet, SumsHold}
use Rattle.frame_call.proofs.Stretches.{SumsLaws, sums-hold}
use Rattle.adaptive.specs.declared.Options.{Options}
use Rattle.adaptive.specs.Options.{picture_options, options_refusal}
use Rattle.adaptive.specs.State.{Answer, fresh, bad_state, refused_answer, cleared_answer}
use Rattle.adaptive.specs.Step.{stepped}
use Rattle.adaptive.proofs.Recomputed.{cleared-sums}
use Rattle.adaptive_claim.specs.Claim.{adaptive_run}
use Rattle.adaptive_claim.proofs.Good.{Good, fresh-good, clear-is, laws}

module _ (o : Options) (ok : options_refusal o ≡ 0) where
  sums-laws : SumsLaws (λ d. d.stream) (λ d. picture_options d.options) bad_state stepped refused_answer cleared_answer (λ (a : Answer). a.number) (λ a. a.detector) (λ (a : Answer). a.sums) (Good o)
  unfolding stepped
  sums-laws =
      record {
        step-stream = λ d ts p. refl;
        step-sums = λ d ts p. refl;
        refused-sums = λ d n. refl;
        clear-sums = λ d. cleared-sums d;
        clear-stream = λ d g. rw (clear-is o ok d g);
      }

  -- the theorem
  pub sums-in-lists : (calls : List Call) → SumsHold (λ (a : Answer). a.sums) none_yet (adaptive_run o calls)
  sums-in-lists calls =
      sums-hold (λ d. d.stream) (λ d. picture_options d.options) bad_state stepped refused_answer cleared_answer (λ (a : Answer). a.number) (λ a. a.detector) (λ (a : Answer). a.sums)
      (Good o) (laws o ok) sums-laws (fresh o) (fresh-good o) none_yet refl calls
