-- Which plane is which, of three planes and of a store, and planes that are packed already.
use mathlib.Core.Path.{◌≡◌, refl, sym, ap, ◌∙◌}
use mathlib.Core.List.{List, ◌++◌}
use native.Mathlib.Omega.{arith}
use Prim.Native.Nat.{ℕ, ◌+◌, ◌*◌, ◌/◌, ◌%◌, ◌≤◌}
use lib.ListN.{length, take, drop, get_or, length-drop}
use lib.Seq.{drop_at, take-add, drop-drop, take_all, length-take-le}
use Rattle.laws.proofs.Grid.{place}
use Rattle.laws.proofs.Joined.{first_part, after-part}
use Rattle.laws.proofs.Tab.{length-tabulate, is-tabulate}
use Rattle.arch_hsv.specs.Hsv.{hue, saturation, value, plane_of, hsv_planes}
use Rattle.arch_planes.specs.Packed.{packed}
use Rattle.scoring.specs.Planes.{luma_part, rest_part, joined, bgr_frame, hsv_frame}

-- the last of three planes
pub last_of_three : (n : ℕ) (l : List ℕ) → length l ≡ 3 * n → drop n (drop n l) ≡ luma_part n l
last_of_three n l e =
    drop-drop n n l ∙ sym (take_all n (drop (n + n) l) (omega (arith, length-drop (n + n) l)))

-- what follows the fourth plane of a store
pub rest_of : (n : ℕ) (l : List ℕ) → drop n (drop (n + (n + n)) l) ≡ rest_part n l
rest_of n l = let e : n + (n + n) + n ≡ n + (n + (n + n)) = omega arith in rw (drop-drop n (n + (n + n)) l, e)

-- the third plane of a store, by its first three
pub luma_of : (n : ℕ) (l : List ℕ) → n + (n + n) ≤ length l → drop (n + n) (take (n + (n + n)) l) ≡ luma_part n l
luma_of n l h =
    let e : n + (n + n) ≡ n + n + n = omega arith in
    rw (e, take-add (n + n) n l) (drop_at (take (n + n) l) (luma_part n l) (n + n) (length-take-le (n + n) l (omega arith)))

-- a plane whose rows follow each other is packed
pub packed_already : (s : List ℕ) (w h : ℕ) → length s ≡ w * h → packed s w h w ≡ s
unfolding packed
packed_already s w h e =
    sym (is-tabulate 0 s (w * h) (λ i. get_or s ((i / w) * w + i % w) 0) e (λ i b. ap (λ (k : ℕ). get_or s k 0) (sym (place i w))))

-- the three planes that a BGR frame is converted to are those that it is scored by
pub converted : (pixels : List ℕ) (w h stride : ℕ) → hsv_planes pixels w h stride ≡ joined (bgr_frame pixels w h stride)
unfolding hsv_planes bgr_frame
converted pixels w h stride = refl

-- the three planes that a BGR frame was converted to, taken as those of an HSV frame
pub made_frame : (pixels out : List ℕ) (w h stride : ℕ) → out ≡ hsv_planes pixels w h stride
    → hsv_frame (take (w * h) out) (take (w * h) (drop (w * h) out)) (drop (w * h) (drop (w * h) out)) w h w ≡ bgr_frame pixels w h stride
unfolding hsv_planes hsv_frame bgr_frame
made_frame pixels out w h stride e =
    let x = plane_of hue pixels w h stride in
    let y = plane_of saturation pixels w h stride in
    let z = plane_of value pixels w h stride in
    let lx : length x ≡ w * h = length-tabulate (w * h) _ in
    let ly : length y ≡ w * h = length-tabulate (w * h) _ in
    let lz : length z ≡ w * h = length-tabulate (w * h) _ in
    rw (
      e,
      first_part x (y ++ z) (w * h) lx,
      after-part x (y ++ z) (w * h) lx,
      first_part y z (w * h) ly,
      after-part y z (w * h) ly,
      packed_already x w h lx,
      packed_already y w h ly,
      packed_already z w h lz,
    ) refl
