-- What a frame that passes its check has: sides of at most 4,096, and each row within the plane.
use mathlib.Core.Path.{◌≡◌, refl}
use mathlib.Core.Bool.{Bool, true, false, cond}
use Prim.Native.Nat.{ℕ, ◌+◌, ◌*◌, ◌<◌, ◌≤◌}
use native.Mathlib.Omega.{arith}
use lib.Dec.{ltb}
use borrow.Author.Tests.{ltb-false}
use Rattle.laws.proofs.Bools.{or-false}
use Rattle.laws.proofs.Grid.{row-end}
use Rattle.frame.specs.Checks.{too_large, too_short, plane_refusal, luma_refusal, bgr_refusal, hsv_refusal}

-- rows of `row` bytes, of which row y starts at y * stride
pub record Accepted (row bytes width height stride : ℕ) : Type 0 where
  pub wide : width ≤ 4096
  pub high : height ≤ 4096
  pub rows : (y : ℕ) → y < height → y * stride + row ≤ bytes

-- no row of a table gave its number
none_of : (a b c : Bool) (n : ℕ) → cond a 1 (cond b 2 (cond c 3 n)) ≡ 0 → (a ≡ false) × (b ≡ false) × (c ≡ false) × (n ≡ 0)
none_of true b c n e = absurd (omega arith)
none_of false true c n e = absurd (omega arith)
none_of false false true n e = absurd (omega arith)
none_of false false false n e = (refl, refl, refl, e)

module _ (row bytes width height stride : ℕ) where
  -- the last row ends at the plane's end, and each other row before it
  within : height * stride ≤ bytes → row ≤ stride → (y : ℕ) → y < height → y * stride + row ≤ bytes
  within a b y h = omega (arith, row-end y stride height h)

  told : too_large width height ≡ false → ltb stride row ≡ false → too_short bytes height stride ≡ false → Accepted row bytes width height stride
  told a b c =
      let sides = or-false (ltb 4096 width) (ltb 4096 height) a in
      record {
        wide = ltb-false 4096 width sides.0;
        high = ltb-false 4096 height sides.1;
        rows = within (ltb-false bytes (height * stride) c) (ltb-false stride row b);
      }

  pub accepted-plane : plane_refusal row bytes width height stride ≡ 0 → Accepted row bytes width height stride
  unfolding plane_refusal
  accepted-plane e =
      let n = none_of (too_large width height) (ltb stride row) (too_short bytes height stride) 0 e in
      told n.0 n.1 n.2

pub accepted-luma : (bytes width height stride : ℕ) → luma_refusal bytes width height stride ≡ 0 → Accepted width bytes width height stride
unfolding luma_refusal
accepted-luma bytes width height stride e = accepted-plane width bytes width height stride e

pub accepted-bgr : (bytes width height stride : ℕ) → bgr_refusal bytes width height stride ≡ 0 → Accepted (3 * width) bytes width height stride
unfolding bgr_refusal
accepted-bgr bytes width height stride e = accepted-plane (3 * width) bytes width height stride e

two-of : (d e : Bool) → ◌≡◌ {A = ℕ} (cond d 4 (cond e 5 0)) 0 → (d ≡ false) × (e ≡ false)
two-of true e p = absurd (omega arith)
two-of false true p = absurd (omega arith)
two-of false false p = (refl, refl)

-- of an HSV frame, each plane
pub accepted-hsv : (hue saturation value width height stride : ℕ) → hsv_refusal hue saturation value width height stride ≡ 0
    → Accepted width hue width height stride × Accepted width saturation width height stride × Accepted width value width height stride
unfolding hsv_refusal
accepted-hsv hue saturation value width height stride e =
    let short : ℕ → Bool = λ bytes. too_short bytes height stride in
    let n = none_of (too_large width height) (ltb stride width) (short hue) (cond (short saturation) 4 (cond (short value) 5 0)) e in
    let m = two-of (short saturation) (short value) n.3 in (
      told width hue width height stride n.0 n.1 n.2,
      told width saturation width height stride n.0 n.1 m.0,
      told width value width height stride n.0 n.1 m.1,
    )
