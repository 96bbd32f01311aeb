-- A plan of one row that has every median, `0,255,t`, does what the threshold t does without a plan (RULES 18.6).
use Rattle.std.specs.Prelude.{◌≡◌, ◌<◌, List, [], ◌∷◌, map, ℕ, length, get_or}
use Rattle.laws.specs.Floats.{float}
use Rattle.light_plan.specs.Rows.{row}
use Rattle.light_plan.specs.Plan.{plan_of, no_plan}
use Rattle.frame_call.specs.Call.{Call, luma, bgr, hsv, clear, Outcome}
use Rattle.frame_call.specs.Run.{MadeCall}
use Rattle.content.specs.declared.Options.{Options}
use Rattle.content.specs.declared.Detector.{Detector}
use Rattle.content.specs.Options.{options, with_plan, options_refusal}
use Rattle.content.specs.State.{Answer}
use Rattle.content_claim.specs.Claim.{content_run}

-- settings with the plan of the one row `0,255,t`; the set threshold stays, though it measures no frame
abbrev pub with_one_row : Options → (t : ℕ) → Options
with_one_row o t = with_plan o (plan_of (row 0 255 t ∷ []))

-- settings with the threshold t and no plan
abbrev pub at_threshold : Options → (t : ℕ) → Options
at_threshold o t = options (float t) o.min_duration o.weights o.filter_mode o.kernel_size o.initial_cut no_plan

-- a state that holds these settings; the stream and the filter are its own
abbrev pub held : Options → Detector → Detector
held o d = record { options = o; stream = d.stream; filter = d.filter }

-- an answer with these settings in its state; all else is its own
abbrev pub answer_with : Options → Answer → Answer
answer_with o a = record { number = a.number; detector = held o a.detector; cut = a.cut; score = a.score; components = a.components; sums = a.sums }

-- what a call brought, with these settings in the state that it returned; the store is its own
abbrev pub brought_with : Options → Outcome Answer → Outcome Answer
brought_with o r = record { answer = answer_with o r.answer; store = r.store }

-- a call that was made, with these settings in the state that it returned
abbrev pub with_settings : Options → MadeCall Answer → MadeCall Answer
with_settings o m = record { call = m.call; outcome = brought_with o m.outcome }

-- every number of a list is a byte
abbrev pub Bytes : List ℕ → Type 0
Bytes l = (i : ℕ) → i < length l → get_or l i 0 < 256

-- The plane that a frame's luma is made of has bytes: the luma plane, the BGR pixels or the value plane. Every slice that a program lends has; the
-- calls of a list hold lists of any numbers, and a median over 255 has no row.
abbrev pub BytesIn : Call → Type 0
BytesIn (luma plane w h stride ts m) = Bytes plane
BytesIn (bgr pixels w h stride ts m) = Bytes pixels
BytesIn (hsv hs ss vs w h stride ts m) = Bytes vs
BytesIn clear = Unit {0}

-- the claim about a list of calls under settings that are accepted with the one row
pub record OneRowClaim (o : Options) (t : ℕ) (calls : List Call) : Type 0 where
  -- the settings with the threshold are accepted too
  pub accepted : options_refusal (at_threshold o t) ≡ 0
  -- each call brings the same number, cut, score, components, sums and store, and, but for the settings that it holds, the same state
  pub same : content_run (at_threshold o t) calls ≡ map (with_settings (at_threshold o t)) (content_run (with_one_row o t) calls)
