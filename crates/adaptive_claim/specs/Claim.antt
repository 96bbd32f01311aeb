-- What holds of every list of adaptive calls under settings that are accepted: from `clear` to `clear` the cuts keep the distance, over changes
-- of size too, whatever the stamps do (RULES 14.12).
use Rattle.std.specs.Prelude.{◌≡◌, List, [], ◌∷◌, Option}
use Rattle.laws.specs.Lists.{All}
use Rattle.filter.specs.Claim.{cuts_in, KeepsDistance}
use Rattle.window.specs.Claim.{joined_part}
use Rattle.frame_call.specs.Call.{Call, by_call}
use Rattle.frame_call.specs.Run.{MadeCall, run_from, RunClaim}
use Rattle.adaptive.specs.declared.Options.{Options}
use Rattle.adaptive.specs.State.{Answer, fresh, settled}
use Rattle.adaptive.specs.Step.{called}
use Rattle.timestamp.specs.declared.Timestamp.{Timestamp}

-- the calls of a list, from a fresh state (RULES 14.5)
abbrev pub adaptive_run : Options → List Call → List (MadeCall Answer)
adaptive_run o calls = run_from called (λ (a : Answer). a.detector) (fresh o) calls

-- the cuts or none that the calls returned, in parts from `clear` to `clear`: a `clear` ends its part (RULES 14.12)
abbrev pub from_clear_to_clear : List (MadeCall Answer) → List (List (Option Timestamp))
from_clear_to_clear [] = [] ∷ []
from_clear_to_clear (x ∷ xs) =
    let cut = x.outcome.answer.cut in
    by_call (λ u w h p ts m. joined_part cut (from_clear_to_clear xs)) ((cut ∷ []) ∷ from_clear_to_clear xs) x.call

-- the claim about a list of adaptive calls under settings that a settings call accepts (RULES 14.13)
pub record AdaptiveClaim (o : Options) (calls : List Call) : Type 0 where
  -- a settings call returns a fresh state (RULES 14.5)
  pub start : (settled o).detector ≡ fresh o
  -- each call returns its own number, which is never 15 (RULES 14.13); when refused calls are left out, each other call brings what it brought
  -- (RULES 14.6)
  pub each-call : RunClaim called (λ (a : Answer). a.detector) (λ (a : Answer). a.number) (fresh o) calls
  -- from `clear` to `clear` each cut is at least the minimum past the one before (RULES 14.12)
  pub distance : All (λ (answers : List (Option Timestamp)). KeepsDistance o.min_duration (cuts_in answers)) (from_clear_to_clear (adaptive_run o calls))
