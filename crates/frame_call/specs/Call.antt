-- The calls that both detectors take, and what a frame is to either of them: refused by the first number that applies (RULES 10.5), or the sums
-- of its differences, the stream after it and the store after it (RULES 8.4, 12.3). A detector adds its own step (`outcome_of`).
use Rattle.std.specs.Prelude.{◌≡◌, Bool, cond, not, List, [], ◌∷◌, ℕ, ◌<◌, eqb, ℤ, length, Option, None, Some, Result, Ok, Err}
use Rattle.timestamp.specs.declared.Timestamp.{Timestamp}
use Rattle.refusal.specs.declared.Refusal.{Refusal}
use Rattle.refusal.specs.Refusal.{first_that, number_of}
use Rattle.canny_marks.specs.Median.{median_of}
use Rattle.frame.specs.Checks.{luma_refusal, bgr_refusal, hsv_refusal}
use Rattle.score.specs.Scores.{edges_enabled}
use Rattle.stream.specs.declared.Stream.{Stream}
use Rattle.stream.specs.declared.Sums.{Sums}
use Rattle.stream.specs.Stream.{no_sums, is_scored, next_stream, memory_refusal}
use Rattle.scoring.specs.Planes.{Planes, luma_frame, bgr_frame, hsv_frame}
use Rattle.scoring.specs.Sums.{kernel_of, frame_sums, store_after}
use Rattle.frame_call.specs.declared.PictureOptions.{PictureOptions}
use Rattle.frame_call.specs.declared.Picture.{Picture}

-- the memory that a frame call is lent (RULES 12.1)
pub record Memory : Type 0 where
  pub store : List ℕ
  pub scratch : List ℕ
  pub magnitudes : List ℤ

-- the memory of these three
abbrev pub memory : List ℕ → List ℕ → List ℤ → Memory
memory store scratch magnitudes = record { store = store; scratch = scratch; magnitudes = magnitudes }

-- a call, with all that it is given: a luma, BGR or HSV frame (RULES 2.2) with its stamp and the lent memory, or `clear`, which is given nothing
pub data Call : Type 0 where
  luma : (plane : List ℕ) (width height stride : ℕ) → Timestamp → Memory → Call
  bgr : (pixels : List ℕ) (width height stride : ℕ) → Timestamp → Memory → Call
  hsv : (hue saturation value : List ℕ) (width height stride : ℕ) → Timestamp → Memory → Call
  clear : Call

-- by cases on a call: for a frame call `f`, of the number by which the frame itself is refused (RULES 2.6) or 0, its sides, planes and stamp, and
-- the memory; for `clear` the value `c`
abbrev pub by_call : {A : Type 0} → (f : (refusal width height : ℕ) → Planes → Timestamp → Memory → A) → (c : A) → Call → A
by_call f c (luma plane w h stride ts m) = f (luma_refusal (length plane) w h stride) w h (luma_frame plane w h stride) ts m
by_call f c (bgr pixels w h stride ts m) = f (bgr_refusal (length pixels) w h stride) w h (bgr_frame pixels w h stride) ts m
by_call f c (hsv hs ss vs w h stride ts m) = f (hsv_refusal (length hs) (length ss) (length vs) w h stride) w h (hsv_frame hs ss vs w h stride) ts m
by_call f c clear = c

-- the first refusal of a frame call, or 0: 15 for a bad state, then the frame's own number, then that of the memory (RULES 10.5)
unfoldable pub call_refusal : (bad : Bool) (frame memory : ℕ) → ℕ
call_refusal bad f m = first_that ((bad, 15) ∷ (not (eqb f 0), f) ∷ (not (eqb m 0), m) ∷ [])

-- the first refusal of a call, or 0, with a frame of this refusal of its own and these sides, and the memory that is lent for it (RULES 10.5)
abbrev pub frame_number : (bad : Bool) (refusal width height : ℕ) → Memory → ℕ
frame_number bad u w h m = call_refusal bad u (memory_refusal (length m.store) (length m.scratch) (length m.magnitudes) w h)

-- the outcome of a call: its answer, and the store after it (RULES 8.4)
pub record Outcome (A : Type 0) : Type 0 where
  pub answer : A
  pub store : List ℕ

-- what a frame is to either detector: the refusal's number or 0, the stream after it (refused: as it was), the sums of its differences (refused:
-- all 0), and the median of its luma plane, or none where it is not wanted (refused: none)
pub record PictureAnswer : Type 0 where
  pub number : ℕ
  pub stream : Stream
  pub sums : Sums
  pub median : Option ℕ

-- what the result of a frame says, where the stream before it is s
abbrev pub picture_in : Stream → Result Picture Refusal → PictureAnswer
picture_in s (Ok p) = record { number = 0; stream = p.stream; sums = p.sums; median = p.median }
picture_in s (Err why) = record { number = number_of why; stream = s; sums = no_sums; median = None }

-- the sums of the differences of an accepted frame's planes with the store (RULES 4.4); all are 0 where it is not scored (RULES 4.5)
abbrev pub sums_of : PictureOptions → (scored : Bool) (width height : ℕ) → Planes → (store : List ℕ) → Sums
sums_of o scored w h p store = frame_sums (edges_enabled o.weights) scored (kernel_of o.kernel_size w h) w h p store

-- the median of a luma plane, where it is wanted (RULES 5.3, 18.5)
abbrev pub median_if : (wanted : Bool) → (plane : List ℕ) → Option ℕ
median_if wanted plane = cond wanted (Some (median_of plane)) None

-- an accepted frame: its sums, the stream after it with its score or none, the median of its luma where it is wanted, and the store with its planes
-- (RULES 8.4, 12.3)
unfoldable pub accepted : Stream → PictureOptions → (width height : ℕ) → Planes → (store : List ℕ) → Outcome PictureAnswer
accepted s o w h p store =
    let sums : Sums = sums_of o (is_scored s w h) w h p store in
    let after : List ℕ = store_after (edges_enabled o.weights) (kernel_of o.kernel_size w h) w h p store in
    record { answer = record { number = 0; stream = next_stream s w h o.weights sums; sums = sums; median = median_if o.wants_median p.luma }; store = after }

-- a frame, accepted or refused. When it is refused there are no sums, and the stream and the store are as they were (RULES 10.3, 10.4).
unfoldable pub pictured : Stream → PictureOptions → (bad : Bool) (refusal width height : ℕ) → Planes → Memory → Outcome PictureAnswer
pictured s o bad u w h p m =
    let n = frame_number bad u w h m in
    cond (eqb n 0) (accepted s o w h p m.store) (record { answer = record { number = n; stream = s; sums = no_sums; median = None }; store = m.store })

-- a detector's answer to a frame: `stepped` of the frame's result when it is accepted, `refused` of the number when it is refused
abbrev pub answered_by : {A : Type 0} → (stepped : PictureAnswer → A) → (refused : ℕ → A) → PictureAnswer → A
answered_by stepped refused p = cond (eqb p.number 0) (stepped p) (refused p.number)

-- the outcome of a detector's call, by its stream, its settings and whether its state is bad (RULES 8.4, 10.3); `cleared` is the answer to
-- `clear`, which is lent no memory
abbrev pub outcome_of : {A : Type 0} → Stream → PictureOptions → (bad : Bool) → (stepped : Timestamp → PictureAnswer → A) → (refused : ℕ → A) → (cleared : A) → Call → Outcome A
outcome_of s o bad stepped refused cleared c =
    by_call (λ u w h p ts m. let r = pictured s o bad u w h p m in record { answer = answered_by (stepped ts) refused r.answer; store = r.store })
    (record { answer = cleared; store = [] }) c

-- What a frame call promises (RULES 14.1, 14.2): `o` is the outcome that the definition gives, `answer` what the call returns, and `number` the
-- number of `answer`; `m` is the memory at entry and `m'` at exit.
pub record Called {A : Type 0} (o : Outcome A) (answer : A) (number : ℕ) (m m' : Memory) : Type 0 where
  -- the answer is the definition's, and so is the store
  pub answered : answer ≡ o.answer
  pub stored : m'.store ≡ o.store
  -- an accepted call leaves the scratch and the magnitudes with any content: only their lengths are promised (RULES 12.4)
  pub scratch-length : length m'.scratch ≡ length m.scratch
  pub magnitudes-length : length m'.magnitudes ≡ length m.magnitudes
  -- a refused call changes no lent byte (RULES 10.4)
  pub refused : 0 < number → m' ≡ m

-- every plane has n bytes
pub record Sized (n : ℕ) (p : Planes) : Type 0 where
  pub hues : length p.hue ≡ n
  pub saturations : length p.saturation ≡ n
  pub lumas : length p.luma ≡ n
