-- The planes of a frame: each has w * h bytes; and what a store has once they took the place of its first three.
use mathlib.Core.Path.{◌≡◌, refl, ap, ◌∙◌}
use mathlib.Core.List.{List, ◌++◌}
use Prim.Native.Nat.{ℕ, ◌+◌, ◌-◌, ◌*◌, ◌≤◌}
use native.Mathlib.Omega.{arith}
use lib.ListN.{length, take, drop, length-drop}
use lib.Seq.{take_at, drop_at, take-add, length-take-le}
use Rattle.laws.proofs.Tab.{length-tabulate}
use Rattle.arch_planes.specs.Packed.{packed}
use Rattle.stream.specs.declared.Sums.{Sums}
use Rattle.scoring.specs.Planes.{Planes, joined, hue_part, saturation_part, luma_part, luma_frame, bgr_frame, hsv_frame}
use Rattle.scoring.specs.Sums.{plane_sums}
use Rattle.frame_call.specs.Call.{Sized}

take-take : (m n : ℕ) (s : List ℕ) → m ≤ n → n ≤ length s → take m (take n s) ≡ take m s
take-take m n s h k =
    let e : n ≡ m + (n - m) = omega arith in
    rw (e, take-add m (n - m) s) (take_at (take m s) (take (n - m) (drop m s)) m (length-take-le m s (omega arith)))

-- a part of the first three planes is that of the whole store
part-of : (a n m : ℕ) (s : List ℕ) → a + n ≤ m → m ≤ length s → take n (drop a (take m s)) ≡ take n (drop a s)
part-of a n m s h k =
    let e : m ≡ a + (m - a) = omega arith in
    rw (e, take-add a (m - a) s)
    (ap (λ (l : List ℕ). take n l) (drop_at (take a s) (take (m - a) (drop a s)) a (length-take-le a s (omega arith)))
    ∙ take-take n (m - a) (drop a s) (omega arith) (omega (arith, length-drop a s)))

-- planes that took the place of the first three, and the sums of their differences, by the whole store
pub replaced : (n : ℕ) (p : Planes) (store new : List ℕ) (sums : Sums) → n + (n + n) ≤ length store
    → (new ≡ joined p) × (sums ≡ plane_sums n p 0 (take (3 * n) store))
    → (new ++ drop (3 * n) store ≡ joined p ++ drop (n + (n + n)) store) × (sums ≡ plane_sums n p 0 store)
replaced n p store new sums inside r =
    let e : 3 * n ≡ n + (n + n) = omega arith in
    let three = take (n + (n + n)) store in
    let hue : hue_part n three ≡ hue_part n store = take-take n (n + (n + n)) store (omega arith) inside in
    let saturation : saturation_part n three ≡ saturation_part n store = part-of n n (n + (n + n)) store (omega arith) inside in
    let luma : luma_part n three ≡ luma_part n store = part-of (n + n) n (n + (n + n)) store (omega arith) inside in
    (rw (r.0, e) refl, rw (e, hue, saturation, luma) at r.1)

pub luma_sized : (plane : List ℕ) (w h stride : ℕ) → Sized (w * h) (luma_frame plane w h stride)
unfolding luma_frame packed
luma_sized plane w h stride = record { hues = length-tabulate (w * h) _; saturations = length-tabulate (w * h) _; lumas = length-tabulate (w * h) _ }

pub bgr_sized : (pixels : List ℕ) (w h stride : ℕ) → Sized (w * h) (bgr_frame pixels w h stride)
unfolding bgr_frame
bgr_sized pixels w h stride = record { hues = length-tabulate (w * h) _; saturations = length-tabulate (w * h) _; lumas = length-tabulate (w * h) _ }

pub hsv_sized : (hs ss vs : List ℕ) (w h stride : ℕ) → Sized (w * h) (hsv_frame hs ss vs w h stride)
unfolding hsv_frame packed
hsv_sized hs ss vs w h stride = record { hues = length-tabulate (w * h) _; saturations = length-tabulate (w * h) _; lumas = length-tabulate (w * h) _ }
