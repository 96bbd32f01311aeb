-- The differences of a frame's planes with those of the store, as whole sums and the number of pixels (RULES 4.1, 4.4), and the store after an
-- accepted frame (RULES 12.3).
use Rattle.std.specs.Prelude.{Bool, cond, List, ◌++◌, ℕ, ◌*◌, None, Option, Some}
use Rattle.arch_planes.specs.Difference.{sum_abs_diff}
use Rattle.canny_marks.specs.Kernel.{auto_kernel_size}
use Rattle.canny.specs.Edges.{edge_plane}
use Rattle.stream.specs.declared.Sums.{Sums}
use Rattle.stream.specs.Stream.{no_sums}
use Rattle.scoring.specs.Planes.{Planes, hue_part, saturation_part, luma_part, edge_part, rest_part}

-- k, the side of the window around an edge: the set one, or by the frame's size when none is set (RULES 5.13)
abbrev pub kernel_of : Option ℕ → ℕ → ℕ → ℕ
kernel_of None w h = auto_kernel_size w h
kernel_of (Some k) w h = k

-- the whole sums of the differences in hue, saturation and luma over n pixels (RULES 4.1); the edge sum is e
abbrev pub plane_sums : ℕ → Planes → ℕ → List ℕ → Sums
plane_sums n p e store =
    let diff : List ℕ → List ℕ → ℕ = sum_abs_diff in
    record { hue = diff p.hue (hue_part n store); saturation = diff p.saturation (saturation_part n store); luma = diff p.luma (luma_part n store); edges = e; count = n }

-- the sums of an accepted frame of w columns and h rows; with edges off the edge sum is 0; all are 0 where the frame is not scored (RULES 4.3 to 4.5)
unfoldable pub frame_sums : (edges scored : Bool) (k w h : ℕ) → Planes → List ℕ → Sums
frame_sums edges scored k w h p store =
    let edge = cond edges (sum_abs_diff (edge_plane p.luma w h k) (edge_part (w * h) store)) 0 in
    cond scored (plane_sums (w * h) p edge store) no_sums

-- the store after an accepted frame: the frame's planes, then its edge plane; with edges off the edge plane there is untouched. Bytes from 4n
-- on never change (RULES 12.3).
unfoldable pub store_after : (edges : Bool) (k w h : ℕ) → Planes → List ℕ → List ℕ
store_after edges k w h p store =
    let edge = cond edges (edge_plane p.luma w h k) (edge_part (w * h) store) in
    p.hue ++ (p.saturation ++ (p.luma ++ (edge ++ rest_part (w * h) store)))
