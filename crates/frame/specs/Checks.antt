-- The checks of a frame, by the refusals 1 to 5 (RULES 2.4 to 2.6). A plane needs height × stride bytes, the padding of the last row
-- included. A width or a height of 0 is accepted.
use Rattle.std.specs.Prelude.{Bool, ◌||◌, [], ◌∷◌, ℕ, ◌*◌, ltb}
use Rattle.refusal.specs.Refusal.{first_that}

-- refusal 1: the width or the height is over 4,096
abbrev pub too_large : ℕ → ℕ → Bool
too_large width height = ltb 4096 width || ltb 4096 height

-- a plane of that many bytes is shorter than height × stride
abbrev pub too_short : ℕ → ℕ → ℕ → Bool
too_short bytes height stride = ltb bytes (height * stride)

-- refusals 1 to 3 of a plane whose rows are `row` bytes long; 0 where it passes
unfoldable pub plane_refusal : ℕ → ℕ → ℕ → ℕ → ℕ → ℕ
plane_refusal row bytes width height stride =
    first_that ((too_large width height, 1) ∷ (ltb stride row, 2) ∷ (too_short bytes height stride, 3) ∷ [])

-- the refusal of a luma frame, or 0, by the length of its plane
unfoldable pub luma_refusal : ℕ → ℕ → ℕ → ℕ → ℕ
luma_refusal bytes width height stride = plane_refusal width bytes width height stride

-- the refusal of a BGR frame, or 0, by the length of its packed pixels, of 3 bytes each
unfoldable pub bgr_refusal : ℕ → ℕ → ℕ → ℕ → ℕ
bgr_refusal bytes width height stride = plane_refusal (3 * width) bytes width height stride

-- the refusal of an HSV frame, or 0, by the lengths of its hue, saturation and value planes
unfoldable pub hsv_refusal : ℕ → ℕ → ℕ → ℕ → ℕ → ℕ → ℕ
hsv_refusal hue saturation value width height stride =
    first_that
    ((too_large width height, 1) ∷
    (ltb stride width, 2) ∷
    (too_short hue height stride, 3) ∷
    (too_short saturation height stride, 4) ∷
    (too_short value height stride, 5) ∷
    [])
