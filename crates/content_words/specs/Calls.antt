-- What the content detector's calls answer, as `words::Recorded` asks it: an accepted frame has the number 0, a `clear` that is refused gives the
-- state back, and what words hold and what calls leave has 0 in the places of its plan past the count.
use Rattle.std.specs.Prelude.{◌≡◌, ◌≢◌, refl, Bool, true, false, cond, List, ℕ}
use mathlib.Core.Path.{ap}
use Rattle.timestamp.specs.declared.Timestamp.{Timestamp}
use Rattle.frame_call.specs.Call.{PictureAnswer}
use Rattle.light_plan.specs.Plan.{tidied as tidied_plan}
use Rattle.light_plan.proofs.Records.{tidied_again}
use Rattle.content.specs.declared.Detector.{Detector}
use Rattle.content.specs.State.{Answer, bad_state, state_of, refused_answer, cleared_answer}
use Rattle.content.specs.Step.{stepped}
use Rattle.content_words.specs.Options.{options_of}
use Rattle.content_words.specs.Plan.{plan_of_words}
use Rattle.content_words.specs.Record.{is_content, foreign, content_of, tidied}

pub accepted : (d : Detector) (ts : Timestamp) (p : PictureAnswer) → (stepped d ts p).number ≡ 0
unfolding stepped
accepted d ts p = refl

-- the answer to `clear`, by whether the state is bad
abbrev cleared_by : Detector → Bool → Answer
cleared_by d bad = cond bad (refused_answer d 15) (refused_answer (state_of d.options d.stream.width d.stream.height) 0)

stays_by : (d : Detector) (bad : Bool) → (cleared_by d bad).number ≢ 0 → (cleared_by d bad).detector ≡ d
stays_by d true h = refl
stays_by d false h = absurd (h refl)

pub stays : (d : Detector) → (cleared_answer d).number ≢ 0 → (cleared_answer d).detector ≡ d
unfolding cleared_answer
stays d h = stays_by d (bad_state d) h

-- a plan that words hold is tidy
read_tidied : (w : List ℕ) → tidied_plan (plan_of_words w) ≡ plan_of_words w
unfolding plan_of_words
read_tidied w = tidied_again _ refl refl refl

foreign_tidied : tidied foreign ≡ foreign
unfolding foreign
foreign_tidied = refl

pub held_tidied : (w : List ℕ) → tidied (content_of w) ≡ content_of w
unfolding content_of options_of
held_tidied w = by_form (is_content w) refl
  where
    by_form : (b : Bool) → is_content w ≡ b → tidied (content_of w) ≡ content_of w
    by_form true e = rw (e, read_tidied _) refl
    by_form false e = rw e foreign_tidied

pub step_tidied : (d : Detector) (ts : Timestamp) (p : PictureAnswer) → tidied d ≡ d → tidied (stepped d ts p).detector ≡ (stepped d ts p).detector
unfolding stepped
step_tidied d ts p e = let plan : tidied_plan d.options.plan ≡ d.options.plan = ap (λ (v : Detector). v.options.plan) e in rw plan refl

pub clear_tidied : (d : Detector) → tidied d ≡ d → tidied (cleared_answer d).detector ≡ (cleared_answer d).detector
unfolding cleared_answer
clear_tidied d e = by_bad (bad_state d) refl
  where
    plan : tidied_plan d.options.plan ≡ d.options.plan
    plan = ap (λ (v : Detector). v.options.plan) e

    by_bad : (b : Bool) → bad_state d ≡ b → tidied (cleared_answer d).detector ≡ (cleared_answer d).detector
    by_bad true q = rw q e
    by_bad false q = rw (q, plan) refl
