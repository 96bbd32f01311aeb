-- Which frames of a list of calls have an earlier frame in their stretch, by the calls alone (RULES 14.7), and what their sums then are
-- (RULES 4.4, 4.5).
use Rattle.std.specs.Prelude.{◌≡◌, Bool, true, false, cond, not, ◌&&◌, List, [], ◌∷◌, ℕ, ◌*◌, eqb}
use Rattle.stream.specs.declared.Sums.{Sums}
use Rattle.stream.specs.Stream.{no_sums}
use Rattle.frame_call.specs.Call.{Call, by_call}
use Rattle.frame_call.specs.Run.{is_refused, MadeCall}

-- the stretch that a list of calls has come to: none at the start and after `clear`, otherwise one of frames of this size
pub data Ongoing : Type 0 where
  none_yet : Ongoing
  of_size : (width height : ℕ) → Ongoing

-- the stretch after a call: a refused call leaves it, a frame is in one of its own size, and `clear` ends it
abbrev pub ongoing_after : Ongoing → Call → Ongoing
ongoing_after t c = cond (is_refused c) t (by_call (λ u w h p ts m. of_size w h) none_yet c)

-- a frame of this size goes on with this stretch
abbrev pub goes_on : Ongoing → (width height : ℕ) → Bool
goes_on none_yet w h = false
goes_on (of_size v g) w h = eqb v w && eqb g h

-- the call is an accepted frame that has an earlier frame in its stretch
abbrev pub has_earlier : Ongoing → Call → Bool
has_earlier t c = not (is_refused c) && by_call (λ u w h p ts m. goes_on t w h) false c

-- how many pixels the frame of a call has; `clear` has no frame
abbrev pub pixels_of : Call → ℕ
pixels_of c = by_call (λ u w h p ts m. w * h) 0 c

-- what the sums of a call's answer are by its place in the list: all 0 without an earlier frame in the stretch; with one, over all pixels of the frame
pub record SumsAt (t : Ongoing) (c : Call) (sums : Sums) : Type 0 where
  pub first : has_earlier t c ≡ false → sums ≡ no_sums
  pub later : has_earlier t c ≡ true → sums.count ≡ pixels_of c

-- the same of each call of a list, from this stretch on
abbrev pub SumsHold : {A : Type 0} → (sums : A → Sums) → Ongoing → List (MadeCall A) → Type 0
SumsHold sums t [] = Unit {0}
SumsHold sums t (x ∷ xs) = SumsAt t x.call (sums x.outcome.answer) × SumsHold sums (ongoing_after t x.call) xs
