-- THE THEOREM for the adaptive detector: the spacing theorem, as `specs/Claim.antt` states it, of every list of calls that a station makes,
-- from the words that a settings call wrote. It rests on the contracts of the station's calls and assumes nothing else.
use Rattle.std.proofs.Common.{None, Option}
use mathlib.Core.Path.{◌≡◌, refl, ap, ◌∙◌}
use mathlib.Core.Bool.{Bool, true, false}
use mathlib.Core.List.{List, [], ◌∷◌, map}
use Prim.Native.Nat.{ℕ, ◌<◌}
use borrow.Author.Tests.{eqb-true}
use lib.Dec.{eqb}
use Rattle.timestamp.specs.declared.Timestamp.{Timestamp}
use Rattle.frame_call.specs.Run.{own_number, MadeCall, run_from}
use Rattle.laws.specs.Lists.{All}
use Rattle.adaptive.specs.declared.Options.{Options}
use Rattle.adaptive.specs.declared.Detector.{Detector}
use Rattle.adaptive.specs.Options.{defaults, picture_options, options_refusal}
use Rattle.adaptive.specs.State.{Answer, fresh, bad_state, settled, cleared_answer}
use Rattle.adaptive.specs.Step.{stepped, called}
use Rattle.frame_call.specs.Call.{Call}
use Rattle.adaptive_claim.specs.Claim.{from_clear_to_clear, AdaptiveClaim}
use Rattle.adaptive_claim.proofs.Theorem.{adaptive-claim, with_answer, defaults-accepted}
use Rattle.adaptive_words.specs.Record.{adaptive_of}
use Rattle.adaptive_words.specs.Calls.{accepted}
use Rattle.station_answer.specs.Promises.{SettingsContract}
use Rattle.station_answer.specs.Calls.{started_by}
use Rattle.station_answer.proofs.Refused.{refused_none as none-refused}
use Rattle.adaptive_station.specs.Station.{adaptive_layout, adaptive_call}
use Rattle.station_claim.specs.Run.{StationCall, cut_read, MadeFrom}
use Rattle.station_claim.specs.Claim.{read_from_clear_to_clear, AdaptiveSpacing}
use Rattle.station_claim.proofs.Runs.{Heard, heard_from, heard_by, heard-is, each-is}

-- ---- a call that is refused has no cut, nor has `clear`

clear_none : (d : Detector) → (cleared_answer d).cut ≡ None
unfolding cleared_answer
clear_none d = by-bad (bad_state d) refl
  where
    by-bad : (b : Bool) → bad_state d ≡ b → (cleared_answer d).cut ≡ None
    by-bad true e = rw e
    by-bad false e = rw e

refused_none : (d : Detector) (c : Call) → eqb (adaptive_call d c).number 0 ≡ false → (adaptive_call d c).cut ≡ None
refused_none d c e =
    none-refused (λ (d : Detector). d.stream) (λ (d : Detector). picture_options d.options) bad_state stepped cleared_answer accepted clear_none d c e

-- ---- what the station sees is what the definition's run has

abbrev heard_of : MadeCall Answer → Heard
heard_of m = record { call = m.call; number = m.outcome.answer.number; cut = m.outcome.answer.cut }

abbrev heard : Detector → List Call → List Heard
heard d cs = heard_by adaptive_layout adaptive_call refused_none clear_none d cs

heard-run : (d : Detector) (cs : List Call) → heard d cs ≡ map heard_of (run_from called (λ (a : Answer). a.detector) d cs)
heard-run d [] = refl
heard-run d (c ∷ cs) = ap (λ (hs : List Heard). record { call = c; number = (called d c).answer.number; cut = (called d c).answer.cut } ∷ hs) (heard-run (called d c).answer.detector cs)

all_of : (P : Heard → Type 0) (ms : List (MadeCall Answer)) → All (λ (m : MadeCall Answer). P (heard_of m)) ms → All P (map heard_of ms)
all_of P [] a = tt
all_of P (m ∷ ms) a = (a.0, all_of P ms a.1)

-- the cuts or none, from clear to clear
abbrev parts : List Heard → List (List (Option Timestamp))
parts [] = [] ∷ []
parts (h ∷ hs) = with_answer h.call h.cut (parts hs)

parts-read : (ys : List StationCall) → read_from_clear_to_clear ys ≡ parts (map heard_from ys)
parts-read [] = refl
parts-read (y ∷ ys) = ap (λ (ps : List (List (Option Timestamp))). with_answer y.call (cut_read y) ps) (parts-read ys)

parts-made : (ms : List (MadeCall Answer)) → parts (map heard_of ms) ≡ from_clear_to_clear ms
parts-made [] = refl
parts-made (m ∷ ms) = ap (λ (ps : List (List (Option Timestamp))). with_answer m.call m.outcome.answer.cut ps) (parts-made ms)

module _ (o : Options) (ok : options_refusal o ≡ 0) (s : List ℕ) (ys : List StationCall) (start : adaptive_of s ≡ fresh o) (made : MadeFrom adaptive_layout adaptive_call s ys) where
  abbrev calls_made : List Call
  calls_made = map (λ (y : StationCall). y.call) ys

  claim : AdaptiveClaim o calls_made
  claim = adaptive-claim o ok calls_made

  all-heard : map heard_from ys ≡ map heard_of (run_from called (λ (a : Answer). a.detector) (fresh o) calls_made)
  all-heard = heard-is adaptive_layout adaptive_call refused_none clear_none made (fresh o) start ∙ heard-run (fresh o) calls_made

  pub adaptive-spacing : AdaptiveSpacing o s ys
  adaptive-spacing =
      record {
        each =
            each-is adaptive_layout adaptive_call refused_none clear_none made (fresh o) start
            (rw (heard-run (fresh o) calls_made) (all_of (λ (h : Heard). h.number ≡ own_number h.call) (run_from called (λ (a : Answer). a.detector) (fresh o) calls_made) claim.each-call.numbers))
            (rw (heard-run (fresh o) calls_made) (all_of (λ (h : Heard). h.number < 15) (run_from called (λ (a : Answer). a.detector) (fresh o) calls_made) claim.each-call.never-bad));
        distance = rw (parts-read ys, all-heard, parts-made (run_from called (λ (a : Answer). a.detector) (fresh o) calls_made)) claim.distance;
      }

-- ---- from the words that a settings call wrote

-- settings, accepted or refused: the claim holds under the settings that the call left
pub after-settings : (o : Options) (r : ℕ) (s : List ℕ) → SettingsContract adaptive_layout (started_by (settled o)) r s
    → (ys : List StationCall) → MadeFrom adaptive_layout adaptive_call s ys → AdaptiveSpacing (settled o).detector.options s ys
unfolding settled
after-settings o r s wrote ys made = by-refused (eqb (options_refusal o) 0) refl
  where
    by-refused : (b : Bool) → eqb (options_refusal o) 0 ≡ b → AdaptiveSpacing (settled o).detector.options s ys
    by-refused true e = rw e (adaptive-spacing o (eqb-true (options_refusal o) 0 e) s ys (rw e at wrote.read_back) made)
    by-refused false e = rw e (adaptive-spacing defaults defaults-accepted s ys (rw e at wrote.read_back) made)
