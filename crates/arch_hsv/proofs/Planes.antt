-- The three planes as parts of `hsv_planes`, for those who hold it in one buffer. Assumes nothing.
use mathlib.Core.Path.{◌≡◌}
use mathlib.Core.List.{List}
use Prim.Native.Nat.{ℕ, ◌+◌, ◌*◌}
use lib.ListN.{length, take, drop}
use lib.Seq.{take_at}
use Rattle.laws.proofs.Tab.{length-tabulate}
use Rattle.laws.proofs.Thirds.{joined_length, part-second, part-third}
use Rattle.arch_hsv.specs.Hsv.{hue, saturation, value, plane_of, hsv_planes}

module _ (src : List ℕ) (w h stride : ℕ) where
  abbrev of : (ℕ → ℕ → ℕ → ℕ) → List ℕ
  of F = plane_of F src w h stride

  plane-length : (F : ℕ → ℕ → ℕ → ℕ) → length (of F) ≡ w * h
  plane-length F = length-tabulate (w * h) _

  pub planes-length : length (hsv_planes src w h stride) ≡ 3 * (w * h)
  unfolding hsv_planes
  planes-length = joined_length (of hue) (of saturation) (of value) (w * h) (plane-length hue) (plane-length saturation) (plane-length value)

  pub hue-part : take (w * h) (hsv_planes src w h stride) ≡ plane_of hue src w h stride
  unfolding hsv_planes
  hue-part = take_at _ _ _ (plane-length hue)

  pub saturation-part : take (w * h) (drop (w * h) (hsv_planes src w h stride)) ≡ plane_of saturation src w h stride
  unfolding hsv_planes
  saturation-part = part-second (of hue) (of saturation) (of value) (w * h) (plane-length hue) (plane-length saturation) (plane-length value)

  pub value-part : take (w * h) (drop (w * h + w * h) (hsv_planes src w h stride)) ≡ plane_of value src w h stride
  unfolding hsv_planes
  value-part = part-third (of hue) (of saturation) (of value) (w * h) (plane-length hue) (plane-length saturation) (plane-length value)
