-- Rows that are worked on one by one, and in blocks. Only contracts of private functions cite this.
use Rattle.std.specs.Prelude.{cond, List, ℕ, ◌+◌, ◌*◌, eqb, get_or, ℤ, pos}
use Rattle.laws.specs.Lists.{plane}
use Rattle.arch_sobel.specs.Sobel.{mag_at, dir_at}
use Rattle.canny_thin.specs.Thin.{class_at}

-- the class of column x of row y, with the direction of the luma's gradient there
abbrev pub class_in : List ℕ → List ℤ → ℕ → ℕ → ℕ → ℕ → ℕ → ℕ → ℕ
class_in luma mag w h low high x y = class_at mag w h low high (dir_at luma w h x y) x y

-- at column x of row y the magnitude of the luma's gradient if that is row n, otherwise what mag has there
abbrev pub mag_or : List ℕ → List ℤ → ℕ → ℕ → ℕ → ℕ → ℕ → ℤ
mag_or luma mag w h n x y = cond (eqb y n) (mag_at luma w h x y) (get_or mag (y * w + x) (pos 0))

-- the plane of magnitudes mag with row n from the luma
unfoldable pub with_row : List ℕ → List ℤ → ℕ → ℕ → ℕ → List ℤ
with_row luma mag w h n = plane w h (mag_or luma mag w h n)
