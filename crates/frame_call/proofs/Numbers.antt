-- A call's own number is never 15: the table's rows 1 to 5 and 12 to 14 are below it. Assumes nothing.
use mathlib.Core.Bool.{Bool, true, false, cond, not}
use mathlib.Core.List.{List, [], ◌∷◌}
use Prim.Native.Nat.{ℕ, ◌+◌, ◌*◌, ◌<◌, max}
use native.Mathlib.Omega.{arith}
use lib.Dec.{eqb, ltb}
use lib.ListN.{length}
use Rattle.refusal.specs.Refusal.{first_that}
use Rattle.frame.specs.Checks.{too_large, too_short, plane_refusal, luma_refusal, bgr_refusal, hsv_refusal}
use Rattle.stream.specs.Stream.{memory_refusal}
use Rattle.laws.specs.Lists.{All}
use Rattle.frame_call.specs.Call.{Memory, Call, luma, bgr, hsv, clear, call_refusal, frame_number}
use Rattle.frame_call.specs.Run.{own_number}

abbrev Below : List (Bool × ℕ) → Type 0
Below rows = All (λ (row : Bool × ℕ). row.1 < 15) rows

either : (b : Bool) (m n : ℕ) → m < 15 → n < 15 → cond b m n < 15
either true m n p q = p
either false m n p q = q

first_below : (rows : List (Bool × ℕ)) → Below rows → first_that rows < 15
first_below [] a = omega arith
first_below (row ∷ rows) a = either row.0 row.1 (first_that rows) a.0 (first_below rows a.1)

plane-below : (row bytes w h stride : ℕ) → plane_refusal row bytes w h stride < 15
unfolding plane_refusal
plane-below row bytes w h stride =
    first_below ((too_large w h, 1) ∷ (ltb stride row, 2) ∷ (too_short bytes h stride, 3) ∷ []) (omega arith, (omega arith, (omega arith, tt)))

hsv-below : (hs ss vs w h stride : ℕ) → hsv_refusal hs ss vs w h stride < 15
unfolding hsv_refusal
hsv-below hs ss vs w h stride =
    first_below ((too_large w h, 1) ∷ (ltb stride w, 2) ∷ (too_short hs h stride, 3) ∷ (too_short ss h stride, 4) ∷ (too_short vs h stride, 5) ∷ [])
    (omega arith, (omega arith, (omega arith, (omega arith, (omega arith, tt)))))

memory-below : (store scratch magnitudes w h : ℕ) → memory_refusal store scratch magnitudes w h < 15
unfolding memory_refusal
memory-below store scratch magnitudes w h =
    first_below ((ltb store (4 * (w * h)), 12) ∷ (ltb scratch (7 * (w * h) + 2 * max w h), 13) ∷ (ltb magnitudes (w * h), 14) ∷ [])
    (omega arith, (omega arith, (omega arith, tt)))

-- of a frame whose own number is below 15
frame_below : (u w h : ℕ) (m : Memory) → u < 15 → frame_number false u w h m < 15
unfolding call_refusal
frame_below u w h m p =
    let n = memory_refusal (length m.store) (length m.scratch) (length m.magnitudes) w h in
    first_below ((not (eqb u 0), u) ∷ (not (eqb n 0), n) ∷ [])
    (p, (memory-below (length m.store) (length m.scratch) (length m.magnitudes) w h, tt))

pub own_below : (c : Call) → own_number c < 15
unfolding luma_refusal bgr_refusal
own_below (luma plane w h stride ts m) = frame_below (luma_refusal (length plane) w h stride) w h m (plane-below w (length plane) w h stride)
own_below (bgr pixels w h stride ts m) = frame_below (bgr_refusal (length pixels) w h stride) w h m (plane-below (3 * w) (length pixels) w h stride)
own_below (hsv hs ss vs w h stride ts m) = frame_below (hsv_refusal (length hs) (length ss) (length vs) w h stride) w h m (hsv-below (length hs) (length ss) (length vs) w h stride)
own_below clear = omega arith
