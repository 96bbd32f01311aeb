-- What holds of every state of a run: the settings are those it began with, no side exceeds 4,096, and no merge is triggered without start
-- or last stamp. So no state of a run is bad. Assumes nothing.
use Rattle.std.proofs.Common.{Float, None, Option, Some}
use mathlib.Core.Path.{◌≡◌, refl, ap}
use mathlib.Core.Bool.{false}
use Prim.Native.Nat.{ℕ}
use Rattle.timestamp.specs.declared.Timestamp.{Timestamp}
use Rattle.frame.specs.Checks.{too_large}
use Rattle.frame_call.proofs.Runs.{DetectorLaws}
use Rattle.content.specs.declared.Options.{Options}
use Rattle.content.specs.declared.Detector.{Detector}
use Rattle.content.specs.Options.{filter_options, picture_options, options_refusal}
use Rattle.content.specs.State.{Answer, state_of, fresh, bad_filter, bad_state, refused_answer, cleared_answer}
use Rattle.content.specs.Step.{filter_step, stepped}
use Rattle.content_claim.proofs.Triggered.{flash-keeps}

pub record Good (o : Options) (d : Detector) : Type 0 where
  pub options : d.options ≡ o
  pub sides : too_large d.stream.width d.stream.height ≡ false
  pub filter : bad_filter d.filter ≡ false

pub fresh-good : (o : Options) → Good o (fresh o)
fresh-good o = record { options = refl; sides = refl; filter = refl }

filter-stays : (d : Detector) (ts : Timestamp) (x : Option Float) (median : Option ℕ) → bad_filter d.filter ≡ false
    → bad_filter (filter_step d.options d.filter ts x median).filter ≡ false
filter-stays d ts None median e = refl
filter-stays d ts (Some x) median e = flash-keeps (filter_options d.options) d.filter ts _ e

module _ (o : Options) (ok : options_refusal o ≡ 0) where
  pub not-bad : (d : Detector) → Good o d → bad_state d ≡ false
  unfolding bad_state
  not-bad d g = rw (g.options, ok, g.sides, g.filter)

  pub clear-is : (d : Detector) → Good o d → cleared_answer d ≡ refused_answer (state_of d.options d.stream.width d.stream.height) 0
  unfolding cleared_answer
  clear-is d g = rw (not-bad d g)

  pub laws : DetectorLaws (λ d. d.stream) (λ d. picture_options d.options) bad_state stepped refused_answer cleared_answer (λ (a : Answer). a.number) (λ a. a.detector) (Good o)
  unfolding stepped
  laws =
      record {
        not-bad = not-bad;
        step-number = λ d ts p. refl;
        step_stays = λ d ts p e g. record { options = g.options; sides = e; filter = filter-stays d ts p.stream.last_score p.median g.filter };
        refused-number = λ d n. refl;
        refused-state = λ d n. refl;
        clear-number = λ d g. ap (λ (a : Answer). a.number) (clear-is d g);
        clear_stays = λ d g. rw (clear-is d g) (record { options = g.options; sides = g.sides; filter = refl });
      }
