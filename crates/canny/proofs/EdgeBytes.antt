-- An edge byte is 255 exactly where the k × k window, clipped to the frame, holds a strong pixel, otherwise 0 (RULES 5.12).
use mathlib.Core.Path.{◌≡◌, ◌∙◌}
use mathlib.Core.List.{List}
use Prim.Native.Nat.{ℕ, ◌+◌, ◌*◌, ◌/◌, ◌%◌, ◌≤◌, ◌<◌}
use lib.ListN.{length, get_or}
use borrow.Author.Tests.{le-ltb}
use Rattle.laws.proofs.Tab.{length-tabulate}
use Rattle.arch_sobel.specs.Sobel.{sobel_mag, sobel_dir}
use Rattle.canny_marks.specs.Median.{median_of}
use Rattle.canny_marks.specs.Marks.{low_mark, high_mark}
use Rattle.canny_thin.specs.Thin.{class_at, thinned}
use Rattle.canny_hysteresis.proofs.Strong.{length-strong, strong-bytes}
use Rattle.dilate.specs.Dilate.{Marked, EdgeByte}
use Rattle.dilate.proofs.Window.{edge-byte}
use Rattle.canny.specs.Edges.{class_plane, strong_plane, edge_plane}

length-class : (luma : List ℕ) (w h : ℕ) → length (class_plane luma w h) ≡ w * h
unfolding class_plane thinned
length-class luma w h =
    length-tabulate (w * h)
    (λ i. class_at (sobel_mag luma w h) w h (low_mark (median_of luma)) (high_mark (median_of luma)) (get_or (sobel_dir luma w h) (i / w * w + i % w) 0) (i % w) (i / w))

pub length-strong-plane : (luma : List ℕ) (w h : ℕ) → length (strong_plane luma w h) ≡ w * h
unfolding strong_plane
length-strong-plane luma w h = length-strong w h (class_plane luma w h) ∙ length-class luma w h

pub strong-marked : (luma : List ℕ) (w h : ℕ) → Marked (strong_plane luma w h)
unfolding strong_plane
strong-marked luma w h = record { byte = λ i b. strong-bytes w h (class_plane luma w h) i }

pub edge-bytes : (luma : List ℕ) (w h k x y : ℕ) → 3 ≤ w → 3 ≤ h → x < w → y < h
    → EdgeByte (strong_plane luma w h) w h k x y (get_or (edge_plane luma w h k) (y * w + x) 0)
unfolding edge_plane
edge-bytes luma w h k x y a b c d =
    rw (le-ltb w 3 a, le-ltb h 3 b) (edge-byte (strong_plane luma w h) w h k x y c d (length-strong-plane luma w h) (strong-marked luma w h))
