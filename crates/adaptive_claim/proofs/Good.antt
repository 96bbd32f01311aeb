-- What holds of every state of a run: the settings are those it began with, no side exceeds 4,096, and the window's count is at most
-- 2 × window + 1. So no state of a run is bad. Assumes nothing.
use Rattle.std.proofs.Common.{Float, None, Option, Some}
use mathlib.Core.Path.{◌≡◌, refl, ap}
use mathlib.Core.Bool.{false, not, ◌||◌}
use Prim.Native.Nat.{ℕ, ◌+◌, ◌*◌}
use native.Mathlib.Omega.{arith}
use lib.Dec.{eqb, ltb}
use borrow.Author.Tests.{le-ltb, ltb-false}
use Rattle.timestamp.specs.declared.Timestamp.{Timestamp}
use Rattle.frame.specs.Checks.{too_large}
use Rattle.window.specs.Window.{fresh as fresh_window}
use Rattle.frame_call.proofs.Runs.{DetectorLaws}
use Rattle.adaptive.specs.declared.Options.{Options}
use Rattle.adaptive.specs.declared.Detector.{Detector}
use Rattle.adaptive.specs.Options.{window_options, picture_options, options_refusal}
use Rattle.adaptive.specs.State.{Answer, state_of, fresh, bad_state, refused_answer, cleared_answer}
use Rattle.adaptive.specs.Step.{window_step, stepped}
use Rattle.adaptive_claim.proofs.Counted.{push-keeps}

pub record Good (o : Options) (d : Detector) : Type 0 where
  pub options : d.options ≡ o
  pub sides : too_large d.stream.width d.stream.height ≡ false
  pub counted : ltb (2 * d.options.window_width + 1) d.window.count ≡ false

none-counted : (n : ℕ) → ltb n fresh_window.count ≡ false
unfolding fresh_window
none-counted n = le-ltb n 0 (omega arith)

pub fresh-good : (o : Options) → Good o (fresh o)
fresh-good o = record { options = refl; sides = refl; counted = none-counted (2 * o.window_width + 1) }

window-stays : (d : Detector) (ts : Timestamp) (x : Option Float) → ltb (2 * d.options.window_width + 1) d.window.count ≡ false
    → ltb (2 * d.options.window_width + 1) (window_step d.options d.window ts x).window.count ≡ false
window-stays d ts None e = e
window-stays d ts (Some x) e =
    le-ltb _ _ (push-keeps (window_options d.options) d.window ts _ (ltb-false (2 * d.options.window_width + 1) d.window.count e))

module _ (o : Options) (ok : options_refusal o ≡ 0) where
  pub not-bad : (d : Detector) → Good o d → bad_state d ≡ false
  unfolding bad_state
  not-bad d g = rw (g.sides, g.counted) (go g.options)
    where
      go : d.options ≡ o → (not (eqb (options_refusal d.options) 0) || false || false) ≡ false
      go e = rw (e, ok)

  pub clear-is : (d : Detector) → Good o d → cleared_answer d ≡ refused_answer (state_of d.options d.stream.width d.stream.height) 0
  unfolding cleared_answer
  clear-is d g = rw (not-bad d g)

  pub laws : DetectorLaws (λ d. d.stream) (λ d. picture_options d.options) bad_state stepped refused_answer cleared_answer (λ (a : Answer). a.number) (λ a. a.detector) (Good o)
  unfolding stepped
  laws =
      record {
        not-bad = not-bad;
        step-number = λ d ts p. refl;
        step_stays = λ d ts p e g. record { options = g.options; sides = e; counted = window-stays d ts p.stream.last_score g.counted };
        refused-number = λ d n. refl;
        refused-state = λ d n. refl;
        clear-number = λ d g. ap (λ (a : Answer). a.number) (clear-is d g);
        clear_stays = λ d g. rw (clear-is d g) (record { options = g.options; sides = g.sides; counted = none-counted (2 * d.options.window_width + 1) });
      }
