-- The HSV bytes of a BGR pixel, by OpenCV's 8-bit rule in whole numbers (RULES 3). A pixel is three bytes: blue b, green g and red r.
use Rattle.std.specs.Prelude.{cond, List, ◌++◌, ℕ, ◌+◌, ◌-◌, ◌*◌, ◌/◌, min, max, eqb, leb, get_or}
use Rattle.laws.specs.Lists.{plane}
use Rattle.arch_hsv.specs.declared.Hsv.{Hsv}

-- a / b, rounded to the nearest whole number, halves up
unfoldable pub rounded : ℕ → ℕ → ℕ
rounded a b = (2 * a + b) / (2 * b)

-- V, the largest of the three bytes (RULES 3.1)
unfoldable pub value : ℕ → ℕ → ℕ → ℕ
value b g r = max (max b g) r

-- D, which is V less the smallest of the three
unfoldable pub delta : ℕ → ℕ → ℕ → ℕ
delta b g r = value b g r - min (min b g) r

-- S, which is 255 × D / V, rounded, or 0 when V = 0 (RULES 3.2, 3.5)
unfoldable pub saturation : ℕ → ℕ → ℕ → ℕ
saturation b g r = cond (eqb (value b g r) 0) 0 (rounded (255 * delta b g r) (value b g r))

-- The hue in degrees, times D. When red is largest, the hue is 60 × (G - B) / D, plus 360 if that is negative; otherwise, when green is
-- largest, 60 × (B - R) / D + 120; otherwise 60 × (R - G) / D + 240 (RULES 3.3). None of the subtractions below is cut off at 0:
-- proofs/Reading.antt states each branch in whole numbers.
unfoldable pub degrees : ℕ → ℕ → ℕ → ℕ
degrees b g r =
    cond (eqb (value b g r) r)
    (cond (leb b g) (60 * (g - b)) (360 * delta b g r - 60 * (b - g)))
    (cond (eqb (value b g r) g)
    (120 * delta b g r + 60 * b - 60 * r)
    (240 * delta b g r + 60 * r - 60 * g))

-- H: 0 when D = 0, otherwise the degrees halved and rounded, where a hue above 179 becomes 179 (RULES 3.4, 3.5)
unfoldable pub hue : ℕ → ℕ → ℕ → ℕ
hue b g r = cond (eqb (delta b g r) 0) 0 (min 179 (rounded (degrees b g r) (2 * delta b g r)))

-- hue, saturation and value of one pixel
unfoldable pub hsv_of : ℕ → ℕ → ℕ → Hsv
hsv_of b g r = record { h = hue b g r; s = saturation b g r; v = value b g r }

-- byte c of pixel x of row y, where rows start stride bytes apart: 0 for blue, 1 for green, 2 for red
abbrev pub byte_at : List ℕ → ℕ → ℕ → ℕ → ℕ → ℕ
byte_at src stride x y c = get_or src (y * stride + (3 * x + c)) 0

-- the plane that has f of blue, green and red at each pixel
abbrev pub plane_of : (ℕ → ℕ → ℕ → ℕ) → List ℕ → ℕ → ℕ → ℕ → List ℕ
plane_of f src w h stride = plane w h (λ x y. f (byte_at src stride x y 0) (byte_at src stride x y 1) (byte_at src stride x y 2))

-- the hue, saturation and value planes, one after the other
unfoldable pub hsv_planes : List ℕ → ℕ → ℕ → ℕ → List ℕ
hsv_planes src w h stride = plane_of hue src w h stride ++ (plane_of saturation src w h stride ++ plane_of value src w h stride)
