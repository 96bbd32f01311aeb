-- The content detector as the station calls it: its record in words, the results of its calls, and settings by numbers.
use Rattle.std.specs.Prelude.{cond, not, List, [], ◌∷◌, ℕ, eqb}
use Rattle.refusal.specs.Refusal.{first_that}
use Rattle.content.specs.declared.Detector.{Detector}
use Rattle.content.specs.declared.Options.{Options}
use Rattle.light_plan.specs.Plan.{plan_of}
use Rattle.plan_text.specs.Text.{text_refusal, rows_in}
use Rattle.content.specs.Options.{with_plan, defaults, or_else, options_refusal}
use Rattle.content.specs.State.{Settled, fresh}
use Rattle.frame_call.specs.Call.{Call}
use Rattle.content.specs.Step.{called}
use Rattle.content_words.specs.Record.{content_words, content_of}
use Rattle.station_answer.specs.Settings.{no_mode}
use Rattle.station_answer.specs.Promises.{Layout, Brought}
use Rattle.station_answer.specs.Calls.{brought_by}

-- the record of the content detector in words, and its weights
abbrev pub content_layout : Layout Detector
content_layout = record { words_of = content_words; held_by = content_of; weights_of = λ (d : Detector). d.options.weights }

-- the result of a call of the content detector
abbrev pub content_call : Detector → Call → Brought Detector
content_call d c = brought_by (called d c)

-- the number that settings are refused by, or 0, where the mode is given by a number: their own, which is one of 6 to 9 as they have no plan yet, then
-- 15 for a number that does not name a mode (RULES 15.5)
abbrev pub settings_number : (mode : ℕ) → Options → ℕ
settings_number mode o = first_that ((not (eqb (options_refusal o) 0), options_refusal o) ∷ (no_mode mode, 15) ∷ [])

-- what such a settings call returns: a fresh state with these settings, or with the defaults where they are refused
unfoldable pub settled_by : (mode : ℕ) → Options → Settled
settled_by mode o = record { number = settings_number mode o; detector = fresh (cond (eqb (settings_number mode o) 0) o defaults) }

-- the number that settings are refused by, or 0, where a plan's text stands beside the numbers: those of the numbers first, then 20 to 22 of the text
-- (RULES 18.3, 18.7)
abbrev pub planned_number : (mode : ℕ) → Options → (text : List ℕ) → ℕ
planned_number mode o text = or_else (settings_number mode o) (text_refusal text)

-- what such a settings call returns: a fresh state with these settings and this plan, or with the defaults, which have none, where they are refused
unfoldable pub planned_by : (mode : ℕ) → Options → (text : List ℕ) → Settled
planned_by mode o text =
    let n : ℕ = planned_number mode o text in
    record { number = n; detector = fresh (cond (eqb n 0) (with_plan o (plan_of (rows_in text))) defaults) }
