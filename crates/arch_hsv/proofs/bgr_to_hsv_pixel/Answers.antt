-- `arch_hsv::bgr_to_hsv_pixel` meets its contract. Assumes nothing.
use mathlib.Core.Path.{◌≡◌}
use Prim.Native.Nat.{ℕ, ◌*◌, min}
use Rattle.arch_hsv.specs.Hsv.{rounded, value, delta, hsv_of}
use Rattle.arch_hsv.specs.Blocks.{sixths}
use Rattle.arch_hsv.proofs.ByCases.{hue-is, saturation-is}
use Rattle.arch_hsv.proofs.bgr_to_hsv_pixel.Goals as goal

module _ (b g r v d k : ℕ) (ev : v ≡ value b g r) (ed : d ≡ delta b g r) (ek : k ≡ sixths b g r) where
  hsv-is : (h s : ℕ) → h ≡ min 179 (rounded (30 * k) d) → s ≡ rounded (255 * d) v → record { h = h; s = s; v = v } ≡ hsv_of b g r
  unfolding hsv_of
  hsv-is h s eh es = rw (eh, es, ek, ed, ev, hue-is b g r, saturation-is b g r)

pub returns : goal.returns
returns c = hsv-is _ _ _ _ _ _ c.parts-p.ensures.v c.parts-p.ensures.d c.parts-p.ensures.k _ _ c.hue.ensures c.saturation.ensures
