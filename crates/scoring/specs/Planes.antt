-- The packed hue, saturation and luma planes that a frame is scored by (RULES 2.7), and the planes of the store (RULES 12.2).
use Rattle.std.specs.Prelude.{List, ◌++◌, ℕ, ◌+◌, ◌*◌, take, drop}
use Rattle.laws.specs.Lists.{tabulate}
use Rattle.arch_hsv.specs.Hsv.{hue, saturation, value, plane_of}
use Rattle.arch_planes.specs.Packed.{packed}

-- the three packed planes of a frame, width × height bytes each (RULES 2.7)
pub record Planes : Type 0 where
  pub hue : List ℕ
  pub saturation : List ℕ
  pub luma : List ℕ

-- a plane of n bytes that is 0 throughout (RULES 2.7)
abbrev pub zeros : ℕ → List ℕ
zeros n = tabulate n (λ _. 0)

-- a luma frame: hue and saturation are 0 throughout, and luma is the frame's plane (RULES 2.7)
unfoldable pub luma_frame : List ℕ → ℕ → ℕ → ℕ → Planes
luma_frame plane w h stride = record { hue = zeros (w * h); saturation = zeros (w * h); luma = packed plane w h stride }

-- a BGR frame: hue, saturation and, as luma, the value that its pixels are converted to (RULES 2.7, 3.1 to 3.5)
unfoldable pub bgr_frame : List ℕ → ℕ → ℕ → ℕ → Planes
bgr_frame pixels w h stride =
    record { hue = plane_of hue pixels w h stride; saturation = plane_of saturation pixels w h stride; luma = plane_of value pixels w h stride }

-- an HSV frame: its three planes, the value plane as luma, with every byte taken as it is (RULES 2.7)
unfoldable pub hsv_frame : List ℕ → List ℕ → List ℕ → ℕ → ℕ → ℕ → Planes
hsv_frame h s v width height stride = record { hue = packed h width height stride; saturation = packed s width height stride; luma = packed v width height stride }

-- the three planes, one after the other
abbrev pub joined : Planes → List ℕ
joined p = p.hue ++ (p.saturation ++ p.luma)

-- The store's first 4n bytes are the last frame's hue, saturation, luma and edge planes, n bytes each (RULES 12.2). Bytes from 4n on are the
-- rest.
abbrev pub hue_part : ℕ → List ℕ → List ℕ
hue_part n s = take n s

abbrev pub saturation_part : ℕ → List ℕ → List ℕ
saturation_part n s = take n (drop n s)

abbrev pub luma_part : ℕ → List ℕ → List ℕ
luma_part n s = take n (drop (n + n) s)

abbrev pub edge_part : ℕ → List ℕ → List ℕ
edge_part n s = take n (drop (n + (n + n)) s)

abbrev pub rest_part : ℕ → List ℕ → List ℕ
rest_part n s = drop (n + (n + (n + n))) s
