-- The edge plane of a luma plane, by its stages in their order: the marks of the median, Sobel, thinning, the sweeps, and the k × k window
-- (RULES 5.2 to 5.12). luma is a plane of bytes of w columns and h rows.
use Rattle.std.specs.Prelude.{cond, ◌||◌, List, ℕ, ◌*◌, ltb, replicate}
use Rattle.arch_sobel.specs.Sobel.{sobel_mag, sobel_dir}
use Rattle.canny_marks.specs.Median.{median_of}
use Rattle.canny_marks.specs.Marks.{low_mark, high_mark}
use Rattle.canny_thin.specs.Thin.{thinned}
use Rattle.canny_hysteresis.specs.Sweeps.{strong_pixels}
use Rattle.dilate.specs.Dilate.{dilated}

-- the class of each pixel after thinning, by the marks of the luma's median: 0 for none, 1 for weak, 2 for strong
unfoldable pub class_plane : List ℕ → ℕ → ℕ → List ℕ
class_plane luma w h = thinned (sobel_mag luma w h) (sobel_dir luma w h) w h (low_mark (median_of luma)) (high_mark (median_of luma))

-- after the sweeps: 255 at each strong pixel, otherwise 0
unfoldable pub strong_plane : List ℕ → ℕ → ℕ → List ℕ
strong_plane luma w h = strong_pixels w h (class_plane luma w h)

-- the edge plane: 0 throughout when the width or the height is below 3 (RULES 5.2), otherwise the strong pixels dilated by the k × k window
unfoldable pub edge_plane : List ℕ → ℕ → ℕ → ℕ → List ℕ
edge_plane luma w h k = cond (ltb w 3 || ltb h 3) (replicate (w * h) 0) (dilated (strong_plane luma w h) w h k)
