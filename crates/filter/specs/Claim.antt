-- What holds of every list of calls, as the filter sees them: the spacing theorem in its two modes (RULES 14.6 to 14.11). Everything here is
-- said of the calls and their answers alone, and nothing of the detector's state.
use Rattle.std.specs.Prelude.{ℕ, ◌≤◌, ◌≡◌, Bool, true, false, ◌&&◌, List, [], ◌∷◌, ◌++◌, map, eqb, ℤ, pos, ◌+ℤ◌, length, ◌≤ℤ◌, None, Option, Some}
use Rattle.laws.specs.Lists.{All, leave_out}
use Rattle.filter.specs.declared.FilterMode.{FilterMode}
use Rattle.filter.specs.declared.FilterMode.TheVariants.{Suppress, Merge}
use Rattle.filter.specs.declared.FilterOptions.{FilterOptions}
use Rattle.filter.specs.Flash.{virtual_seed}
use Rattle.filter.specs.Calls.{Frame, FilterCall, refused, frame, clear, Answered, ◌brought◌, filter_run}
use Rattle.timestamp.specs.declared.Timestamp.{Timestamp}

-- ---- refused calls left out (RULES 14.6)

-- a refused call
abbrev pub filter_refused : FilterCall → Bool
filter_refused refused = true
filter_refused (frame w h f) = false
filter_refused clear = false

-- the call of an answered call
abbrev pub call_of : {A : Type 0} → Answered A → FilterCall
call_of (c brought a) = c

-- the answered calls that were not refused
abbrev pub without_refused : {A : Type 0} → List (Answered A) → List (Answered A)
without_refused {A} xs = leave_out (λ (x : Answered A). filter_refused (call_of x)) xs

-- ---- stretches: a stretch is a longest run of accepted frame calls of one width and height with none but refused calls between them
-- (RULES 14.7)

-- the frame of an accepted call, with the call's answer
pub record Shot (A : Type 0) : Type 0 where
  pub frame : Frame
  pub answer : A

-- a stretch: its first frame, which has no score, and all others, which are its scored frames (RULES 14.7)
pub record Stretch (A : Type 0) : Type 0 where
  pub first : Shot A
  pub scored : List (Shot A)

-- a stretch of frames of this size goes on: the next call that is not refused is a frame call of the same width and height
abbrev pub goes_on : {A : Type 0} → (width height : ℕ) → List (Answered A) → Bool
goes_on w h [] = false
goes_on w h ((refused brought a) ∷ xs) = goes_on w h xs
goes_on w h ((frame w' h' f brought a) ∷ xs) = eqb w w' && eqb h h'
goes_on w h ((clear brought a) ∷ xs) = false

-- a frame, before the stretches of the calls after it: where its stretch goes on, the first of these takes it in as its first frame;
-- otherwise it is a stretch by itself
abbrev pub joined_stretch : {A : Type 0} → (goes_on : Bool) → Shot A → List (Stretch A) → List (Stretch A)
joined_stretch b x [] = record { first = x; scored = [] } ∷ []
joined_stretch true x (t ∷ ts) = record { first = x; scored = t.first ∷ t.scored } ∷ ts
joined_stretch false x (t ∷ ts) = record { first = x; scored = [] } ∷ t ∷ ts

-- The stretches of a list of calls, in order (RULES 14.7). The division is by the calls alone: it is the same whatever the answers are, and of
-- whatever type.
abbrev pub stretches : {A : Type 0} → List (Answered A) → List (Stretch A)
stretches [] = []
stretches ((refused brought a) ∷ xs) = stretches xs
stretches ((frame w h f brought a) ∷ xs) = joined_stretch (goes_on w h xs) (record { frame = f; answer = a }) (stretches xs)
stretches ((clear brought a) ∷ xs) = stretches xs

-- the scored frames of a stretch: all but its first (RULES 14.7)
abbrev pub scored_frames : {A : Type 0} → Stretch A → List Frame
scored_frames {A} t = map (λ (x : Shot A). x.frame) t.scored

-- ---- cuts: the stamps that the calls returned, in the order of the calls (RULES 14.8)

-- what the calls brought, in their order
abbrev pub answers : {A : Type 0} → List (Answered A) → List A
answers [] = []
answers ((c brought a) ∷ xs) = a ∷ answers xs

-- the cuts among these answers, in their order (RULES 14.8)
abbrev pub cuts_in : List (Option Timestamp) → List ℤ
cuts_in [] = []
cuts_in (None ∷ rs) = cuts_in rs
cuts_in (Some t ∷ rs) = t.micros ∷ cuts_in rs

-- the cuts of a stretch
abbrev pub cuts : Stretch (Option Timestamp) → List ℤ
cuts t = cuts_in (t.first.answer ∷ map (λ (x : Shot (Option Timestamp)). x.answer) t.scored)

-- the cuts of all stretches, one stretch after another
abbrev pub all_cuts : List (Stretch (Option Timestamp)) → List ℤ
all_cuts [] = []
all_cuts (t ∷ ts) = cuts t ++ all_cuts ts

-- a choice from a list takes each element at most once, in the order of the list (RULES 14.8)
pub data Choice {A : Type 0} : List A → List A → Type 0 where
  none : Choice [] []
  skip : {x : A} {xs ys : List A} → Choice xs ys → Choice xs (x ∷ ys)
  pick : {x : A} {xs ys : List A} → Choice xs ys → Choice (x ∷ xs) (x ∷ ys)

-- stamps that keep the distance: each is at least the minimum past the one before, in whole numbers (RULES 1.5, 14.8)
abbrev pub KeepsDistance : (minimum : ℕ) → List ℤ → Type 0
KeepsDistance d [] = Unit {0}
KeepsDistance d (x ∷ []) = Unit {0}
KeepsDistance d (x ∷ y ∷ ys) = ((x +ℤ pos d) ≤ℤ y) × KeepsDistance d (y ∷ ys)

-- stamps that never fall: none of the list is before one that stands earlier in it (RULES 14.10)
abbrev pub NeverFall : List ℤ → Type 0
NeverFall [] = Unit {0}
NeverFall (x ∷ xs) = All (λ (y : ℤ). x ≤ℤ y) xs × NeverFall xs

-- the stamps of frames
abbrev pub stamps : List Frame → List ℤ
stamps fs = map (λ (f : Frame). f.stamp.micros) fs

-- the first allowed stamp, by the first scored frame: the seed plus the minimum, a whole-number sum; the subtraction in the seed stops at
-- -2^63 (RULES 7.2, 14.9)
abbrev pub first_allowed : FilterOptions → Frame → ℤ
first_allowed o f = (virtual_seed f.stamp o).micros +ℤ pos o.min_duration

-- the chosen frames are at or past the first allowed stamp of a stretch with these scored frames; without scored frames there is nothing to
-- choose
abbrev pub FromFirst : FilterOptions → (scored chosen : List Frame) → Type 0
FromFirst o [] gs = Unit {0}
FromFirst o (f ∷ fs) gs = All (λ (t : ℤ). first_allowed o f ≤ℤ t) (stamps gs)

-- ---- the claim

-- `chosen` is a choice of scored frames that are above and at or past the first allowed stamp, and it keeps the distance (RULES 14.10)
pub record Allowed (o : FilterOptions) (scored chosen : List Frame) : Type 0 where
  pub choice : Choice chosen scored
  pub above : All (λ (f : Frame). f.above ≡ true) chosen
  pub from_first : FromFirst o scored chosen
  pub distance : KeepsDistance o.min_duration (stamps chosen)

-- Suppress (RULES 14.10). Whatever the stamps do, the cuts are the stamps of such a choice. Where the stamps of the scored frames never fall,
-- no such choice has more members.
pub record Suppressed (o : FilterOptions) (scored : List Frame) (cs : List ℤ) : Type 0 where
  pub chosen : List Frame
  pub are-cuts : stamps chosen ≡ cs
  pub allowed : Allowed o scored chosen
  pub greatest : NeverFall (stamps scored) → (other : List Frame) → Allowed o scored other → length other ≤ length cs

-- Merge (RULES 14.11). Where the stamps of the scored frames never fall, the cuts keep the distance.
pub record Merged (o : FilterOptions) (scored : List Frame) (cs : List ℤ) : Type 0 where
  pub distance : NeverFall (stamps scored) → KeepsDistance o.min_duration cs

-- the rule of the mode (RULES 14.10, 14.11), for the scored frames of a stretch and its cuts
abbrev pub InMode : FilterMode → FilterOptions → (scored : List Frame) (cs : List ℤ) → Type 0
InMode Suppress o fs cs = Suppressed o fs cs
InMode Merge o fs cs = Merged o fs cs

-- a stretch keeps the rule of the mode
abbrev pub StretchKeeps : FilterOptions → Stretch (Option Timestamp) → Type 0
StretchKeeps o t = InMode o.filter_mode o (scored_frames t) (cuts t)

-- the claim about calls and what they brought (RULES 14.10, 14.11)
pub record StretchesHold (o : FilterOptions) (xs : List (Answered (Option Timestamp))) : Type 0 where
  -- the first frame of a stretch gives no cut
  pub first-frames : All (λ (t : Stretch (Option Timestamp)). t.first.answer ≡ None) (stretches xs)
  -- each stretch keeps the rule of the mode
  pub each-stretch : All (StretchKeeps o) (stretches xs)
  -- every cut belongs to a stretch
  pub no-others : cuts_in (answers xs) ≡ all_cuts (stretches xs)

-- the claim about a list of calls from a fresh state
pub record FilterClaim (o : FilterOptions) (calls : List FilterCall) : Type 0 where
  pub holds : StretchesHold o (filter_run o calls)
  -- when refused calls are left out, each other call brings what it brought (RULES 14.6)
  pub left_out : filter_run o (leave_out filter_refused calls) ≡ without_refused (filter_run o calls)
