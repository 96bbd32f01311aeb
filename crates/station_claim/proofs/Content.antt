-- THE THEOREM for the content detector: the spacing theorem, as `specs/Claim.antt` states it, of every list of calls that a station makes,
-- from the words that a settings call wrote. It rests on the contracts of the station's calls and assumes nothing else.
use Rattle.std.proofs.Common.{None, Option}
use mathlib.Core.Path.{◌≡◌, refl, ap, ◌∙◌}
use mathlib.Core.Bool.{Bool, true, false}
use mathlib.Core.List.{List, [], ◌∷◌, map}
use Prim.Native.Nat.{ℕ, ◌<◌}
use borrow.Author.Tests.{eqb-true}
use lib.Dec.{eqb}
use Rattle.timestamp.specs.declared.Timestamp.{Timestamp}
use Rattle.frame_call.specs.Run.{own_number, MadeCall, run_from}
use Rattle.filter.specs.Calls.{Answered, ◌brought◌}
use Rattle.laws.specs.Lists.{All}
use Rattle.content.specs.declared.Options.{Options}
use Rattle.content.specs.declared.Detector.{Detector}
use Rattle.content.specs.Options.{with_plan, defaults, picture_options, options_refusal}
use Rattle.content.specs.State.{Answer, fresh, bad_state, settled, cleared_answer}
use Rattle.content.specs.Step.{stepped, called}
use Rattle.frame_call.specs.Call.{Call}
use Rattle.content_claim.specs.Claim.{view_of, with_cut, ContentClaim}
use Rattle.content_claim.proofs.Theorem.{content-claim, defaults-accepted}
use Rattle.content_words.specs.Record.{content_of}
use Rattle.station_answer.specs.Settings.{no_mode}
use Rattle.content_words.specs.Calls.{accepted}
use Rattle.station_answer.specs.Promises.{SettingsContract}
use Rattle.station_answer.specs.Calls.{started_by}
use Rattle.station_answer.proofs.Refused.{refused_none as none-refused}
use Rattle.content_station.specs.Station.{content_layout, content_call, settings_number, settled_by, planned_number, planned_by}
use Rattle.content_station.proofs.Planned.{first-zero, planned-accepted}
use Rattle.light_plan.specs.Plan.{plan_of}
use Rattle.plan_text.specs.Text.{rows_in}
use Rattle.station_claim.specs.Run.{StationCall, MadeFrom}
use Rattle.station_claim.specs.Claim.{with_cut_read, ContentSpacing}
use Rattle.station_claim.proofs.Runs.{Heard, heard_from, heard_by, heard-is, each-is}

-- ---- a call that is refused has no cut, nor has `clear`

clear_none : (d : Detector) → (cleared_answer d).cut ≡ None
unfolding cleared_answer
clear_none d = by-bad (bad_state d) refl
  where
    by-bad : (b : Bool) → bad_state d ≡ b → (cleared_answer d).cut ≡ None
    by-bad true e = rw e
    by-bad false e = rw e

refused_none : (d : Detector) (c : Call) → eqb (content_call d c).number 0 ≡ false → (content_call d c).cut ≡ None
refused_none d c e =
    none-refused (λ (d : Detector). d.stream) (λ (d : Detector). picture_options d.options) bad_state stepped cleared_answer accepted clear_none d c e

-- ---- what the station sees is what the definition's run has

abbrev heard_of : MadeCall Answer → Heard
heard_of m = record { call = m.call; number = m.outcome.answer.number; cut = m.outcome.answer.cut }

abbrev heard : Detector → List Call → List Heard
heard d cs = heard_by content_layout content_call refused_none clear_none d cs

heard-run : (d : Detector) (cs : List Call) → heard d cs ≡ map heard_of (run_from called (λ (a : Answer). a.detector) d cs)
heard-run d [] = refl
heard-run d (c ∷ cs) = ap (λ (hs : List Heard). record { call = c; number = (called d c).answer.number; cut = (called d c).answer.cut } ∷ hs) (heard-run (called d c).answer.detector cs)

all_of : (P : Heard → Type 0) (ms : List (MadeCall Answer)) → All (λ (m : MadeCall Answer). P (heard_of m)) ms → All P (map heard_of ms)
all_of P [] a = tt
all_of P (m ∷ ms) a = (a.0, all_of P ms a.1)

-- a call as `filter`'s claim sees it
abbrev seen_as : Options → Heard → Answered (Option Timestamp)
seen_as o h = view_of o h.call brought h.cut

seen_read : (o : Options) (ys : List StationCall) → map (with_cut_read o) ys ≡ map (seen_as o) (map heard_from ys)
seen_read o [] = refl
seen_read o (y ∷ ys) = ap (λ (xs : List (Answered (Option Timestamp))). with_cut_read o y ∷ xs) (seen_read o ys)

seen-made : (o : Options) (ms : List (MadeCall Answer)) → map (seen_as o) (map heard_of ms) ≡ map (with_cut o) ms
seen-made o [] = refl
seen-made o (m ∷ ms) = ap (λ (xs : List (Answered (Option Timestamp))). with_cut o m ∷ xs) (seen-made o ms)

module _ (o : Options) (ok : options_refusal o ≡ 0) (s : List ℕ) (ys : List StationCall) (start : content_of s ≡ fresh o) (made : MadeFrom content_layout content_call s ys) where
  abbrev calls_made : List Call
  calls_made = map (λ (y : StationCall). y.call) ys

  claim : ContentClaim o calls_made
  claim = content-claim o ok calls_made

  all-heard : map heard_from ys ≡ map heard_of (run_from called (λ (a : Answer). a.detector) (fresh o) calls_made)
  all-heard = heard-is content_layout content_call refused_none clear_none made (fresh o) start ∙ heard-run (fresh o) calls_made

  pub content-spacing : ContentSpacing o s ys
  content-spacing =
      record {
        each =
            each-is content_layout content_call refused_none clear_none made (fresh o) start
            (rw (heard-run (fresh o) calls_made) (all_of (λ (h : Heard). h.number ≡ own_number h.call) (run_from called (λ (a : Answer). a.detector) (fresh o) calls_made) claim.each-call.numbers))
            (rw (heard-run (fresh o) calls_made) (all_of (λ (h : Heard). h.number < 15) (run_from called (λ (a : Answer). a.detector) (fresh o) calls_made) claim.each-call.never-bad));
        holds = rw (seen_read o ys, all-heard, seen-made o (run_from called (λ (a : Answer). a.detector) (fresh o) calls_made)) claim.holds;
      }

-- ---- from the words that a settings call wrote

settings-by : (mode : ℕ) (o : Options) (s : List ℕ) (ys : List StationCall) → content_of s ≡ (settled_by mode o).detector → MadeFrom content_layout content_call s ys
    → ContentSpacing (settled_by mode o).detector.options s ys
unfolding settled_by
settings-by mode o s ys held made = by-refused (eqb (settings_number mode o) 0) refl
  where
    by-refused : (b : Bool) → eqb (settings_number mode o) 0 ≡ b → ContentSpacing (settled_by mode o).detector.options s ys
    by-refused true e = rw e (content-spacing o (first-zero (options_refusal o) (no_mode mode) (eqb-true _ 0 e)) s ys (rw e at held) made)
    by-refused false e = rw e (content-spacing defaults defaults-accepted s ys (rw e at held) made)

-- settings by numbers, accepted or refused: the claim holds under the settings that the call left
pub after-new : (mode : ℕ) (o : Options) (r : ℕ) (s : List ℕ) → SettingsContract content_layout (started_by (settled_by mode o)) r s
    → (ys : List StationCall) → MadeFrom content_layout content_call s ys → ContentSpacing (settled_by mode o).detector.options s ys
after-new mode o r s wrote ys made = settings-by mode o s ys wrote.read_back made

-- settings with a light plan's text, accepted or refused
planned-settings : (mode : ℕ) (o : Options) (text s : List ℕ) (ys : List StationCall) → content_of s ≡ (planned_by mode o text).detector
    → MadeFrom content_layout content_call s ys → ContentSpacing (planned_by mode o text).detector.options s ys
unfolding planned_by
planned-settings mode o text s ys held made = by-refused (eqb (planned_number mode o text) 0) refl
  where
    by-refused : (b : Bool) → eqb (planned_number mode o text) 0 ≡ b → ContentSpacing (planned_by mode o text).detector.options s ys
    by-refused true e =
        rw e (content-spacing (with_plan o (plan_of (rows_in text))) (planned-accepted mode o text (eqb-true _ 0 e)) s ys (rw e at held) made)
    by-refused false e = rw e (content-spacing defaults defaults-accepted s ys (rw e at held) made)

pub after-planned : (mode : ℕ) (o : Options) (text : List ℕ) (r : ℕ) (s : List ℕ) → SettingsContract content_layout (started_by (planned_by mode o text)) r s
    → (ys : List StationCall) → MadeFrom content_layout content_call s ys → ContentSpacing (planned_by mode o text).detector.options s ys
after-planned mode o text r s wrote ys made = planned-settings mode o text s ys wrote.read_back made

-- the default settings
pub after-default : (r : ℕ) (s : List ℕ) → SettingsContract content_layout (started_by (settled defaults)) r s
    → (ys : List StationCall) → MadeFrom content_layout content_call s ys → ContentSpacing defaults s ys
unfolding settled
after-default r s wrote ys made = content-spacing defaults defaults-accepted s ys (rw defaults-accepted at wrote.read_back) made
