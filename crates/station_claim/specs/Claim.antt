-- Promise 3, the spacing theorem, for every list of calls that a station makes on one detector, from the words that a settings call wrote
-- (RULES 14.14). The cuts are those that the station reads from the answers' words. Stretches, choices and distances are those of `filter`'s
-- Claim.antt; which number a call is refused by, and how it counts, is said of the settings and the call alone (`frame_call`, Run.antt;
-- `content_claim`, Claim.antt).
use Rattle.std.specs.Prelude.{◌≡◌, List, [], ◌∷◌, map, ℕ, ◌<◌, Option}
use Rattle.filter.specs.Calls.{Answered, ◌brought◌}
use Rattle.laws.specs.Lists.{All, leave_out}
use Rattle.filter.specs.Claim.{cuts_in, KeepsDistance, StretchesHold}
use Rattle.window.specs.Claim.{joined_part}
use Rattle.content.specs.declared.Options.{Options}
use Rattle.content.specs.Options.{filter_options}
use Rattle.adaptive.specs.declared.Options.{Options as AdaptiveOptions}
use Rattle.frame_call.specs.Call.{Call, by_call}
use Rattle.frame_call.specs.Run.{own_number}
use Rattle.content_claim.specs.Claim.{view_of}
use Rattle.station_answer.specs.Promises.{Layout, Brought}
use Rattle.content_station.specs.Station.{content_layout, content_call}
use Rattle.adaptive_station.specs.Station.{adaptive_layout, adaptive_call}
use Rattle.station_claim.specs.Run.{StationCall, was_refused, cut_read, MadeFrom}
use Rattle.timestamp.specs.declared.Timestamp.{Timestamp}

-- what holds of each call in such a list, for either detector (RULES 14.14)
pub record EachCall {D : Type 0} (l : Layout D) (calls : D → Call → Brought D) (s : List ℕ) (ys : List StationCall) : Type 0 where
  -- each call returns its own number, which the state has no part in, and which is never 15 (RULES 14.13)
  pub numbers : All (λ (y : StationCall). y.number ≡ own_number y.call) ys
  pub never-bad : All (λ (y : StationCall). y.number < 15) ys
  -- the calls that were not refused can be made alone, and bring what they brought: number, words of the state and the answer, and store
  -- (RULES 14.6)
  pub left_out : MadeFrom l calls s (leave_out was_refused ys)
  -- and made alone they can bring nothing else
  pub only_so : (zs : List StationCall) → MadeFrom l calls s zs
      → map (λ (z : StationCall). z.call) zs ≡ map (λ (y : StationCall). y.call) (leave_out was_refused ys) → zs ≡ leave_out was_refused ys

-- a call as `filter`'s claim sees it, with the cut or none that the station reads
abbrev pub with_cut_read : Options → StationCall → Answered (Option Timestamp)
with_cut_read o y = view_of o y.call brought cut_read y

-- the spacing theorem for the content detector: each stretch keeps the rule of the mode, its first frame gives no cut, and every cut belongs to
-- a stretch (RULES 14.10, 14.11)
pub record ContentSpacing (o : Options) (s : List ℕ) (ys : List StationCall) : Type 0 where
  pub each : EachCall content_layout content_call s ys
  pub holds : StretchesHold (filter_options o) (map (with_cut_read o) ys)

-- the cuts or none that the station reads, in parts from `clear` to `clear`: a `clear` ends its part (RULES 14.12)
abbrev pub read_from_clear_to_clear : List StationCall → List (List (Option Timestamp))
read_from_clear_to_clear [] = [] ∷ []
read_from_clear_to_clear (y ∷ ys) =
    let cut = cut_read y in
    by_call (λ u w h p ts m. joined_part cut (read_from_clear_to_clear ys)) ((cut ∷ []) ∷ read_from_clear_to_clear ys) y.call

-- the spacing theorem for the adaptive detector: from `clear` to `clear` the cuts keep the distance, whatever the stamps do (RULES 14.12)
pub record AdaptiveSpacing (o : AdaptiveOptions) (s : List ℕ) (ys : List StationCall) : Type 0 where
  pub each : EachCall adaptive_layout adaptive_call s ys
  pub distance : All (λ (cuts : List (Option Timestamp)). KeepsDistance o.min_duration (cuts_in cuts)) (read_from_clear_to_clear ys)
