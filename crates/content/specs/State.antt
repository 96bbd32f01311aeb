-- The state of a content detector, when it is bad (RULES 10.6), and what a settings call (RULES 8.2), a refused call (RULES 10.3) and `clear`
-- (RULES 8.7) return.
use Rattle.std.specs.Prelude.{Bool, true, false, cond, not, ◌&&◌, ◌||◌, ℕ, eqb, None, Option, Some}
use Rattle.frame.specs.Checks.{too_large}
use Rattle.stream.specs.Stream.{fresh_stream}
use Rattle.filter.specs.declared.Filter.{Filter}
use Rattle.filter.specs.Flash.{fresh as fresh_filter}
use Rattle.content.specs.declared.Options.{Options}
use Rattle.content.specs.declared.Detector.{Detector}
use Rattle.detector.specs.Answers.{Answer as AnswerOf, Settled as SettledOf, without_score}
use Rattle.content.specs.Options.{defaults, options_refusal}
use Rattle.timestamp.specs.declared.Timestamp.{Timestamp}

-- what a frame call or `clear` answers, and what a settings call returns, of this detector
abbrev pub Answer : Type 0
Answer = AnswerOf Detector

abbrev pub Settled : Type 0
Settled = SettledOf Detector

-- a state before the first frame of a stretch, with these settings and this size
abbrev pub state_of : Options → ℕ → ℕ → Detector
state_of o w h = record { options = o; stream = fresh_stream w h; filter = fresh_filter }

-- a fresh state: no frame yet, size 0 × 0, a fresh filter (RULES 8.2)
abbrev pub fresh : Options → Detector
fresh o = state_of o 0 0

-- there is no stamp here
abbrev pub missing : Option Timestamp → Bool
missing None = true
missing (Some t) = false

-- a merge is going on without a start or a last stamp (RULES 10.6, 10.7)
abbrev pub bad_filter : Filter → Bool
bad_filter f = f.merge_triggered && (missing f.merge_start || missing f.last_above)

-- 15: the settings would be refused, a side exceeds 4,096, or a merge is going on without a start or a last stamp (RULES 10.6)
unfoldable pub bad_state : Detector → Bool
bad_state d = not (eqb (options_refusal d.options) 0) || too_large d.stream.width d.stream.height || bad_filter d.filter

-- a settings call: it returns a fresh state of these settings (RULES 8.2), or when they are refused, a fresh state of the defaults (RULES 10.3)
unfoldable pub settled : Options → Settled
settled o = record { number = options_refusal o; detector = fresh (cond (eqb (options_refusal o) 0) o defaults) }

-- an answer with this state, no cut, no score and no sums: that of a refused call, with the old state (RULES 10.3), and that of `clear`, with the
-- number 0
abbrev pub refused_answer : Detector → ℕ → Answer
refused_answer d n = without_score d n

-- what `clear` returns: refused by 15 alone, it keeps settings and size, and all else is as at the start (RULES 8.7)
unfoldable pub cleared_answer : Detector → Answer
cleared_answer d = cond (bad_state d) (refused_answer d 15) (refused_answer (state_of d.options d.stream.width d.stream.height) 0)
