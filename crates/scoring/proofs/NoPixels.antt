-- A frame without pixels has no sums, scored or not, with edges on or off (RULES 4.5); and with edges off there is no edge sum (RULES 4.4).
use mathlib.Core.Path.{◌≡◌, refl, ◌∙◌}
use mathlib.Core.Bool.{Bool, true, false, cond}
use mathlib.Core.List.{List}
use Prim.Native.Nat.{ℕ, ◌*◌}
use lib.ListN.{length}
use Rattle.laws.specs.Lists.{sum}
use Rattle.arch_planes.specs.Difference.{sum_abs_diff}
use Rattle.canny.specs.Edges.{edge_plane}
use Rattle.canny.proofs.Length.{edge-length}
use Rattle.stream.specs.Stream.{no_sums}
use Rattle.scoring.specs.Planes.{Planes, hue_part, saturation_part, luma_part, edge_part}
use Rattle.scoring.specs.Sums.{frame_sums}

-- planes without bytes do not differ
none_differ : (s t : List ℕ) → length s ≡ 0 → sum_abs_diff s t ≡ 0
unfolding sum_abs_diff sum
none_differ s t e = rw e

pub no-pixels : (edges scored : Bool) (k w h : ℕ) (p : Planes) (store : List ℕ) → length p.hue ≡ w * h → length p.saturation ≡ w * h → length p.luma ≡ w * h
    → w * h ≡ 0 → frame_sums edges scored k w h p store ≡ no_sums
unfolding frame_sums
no-pixels edges false k w h p store eh es el z = refl
no-pixels edges true k w h p store eh es el z =
    let hue = none_differ p.hue (hue_part (w * h) store) (eh ∙ z) in
    let saturation = none_differ p.saturation (saturation_part (w * h) store) (es ∙ z) in
    let luma = none_differ p.luma (luma_part (w * h) store) (el ∙ z) in
    let edge = none_differ (edge_plane p.luma w h k) (edge_part (w * h) store) (edge-length p.luma w h k ∙ z) in
    rw (hue, saturation, luma, edge) (by-edges edges)
  where
    by-edges : (b : Bool) → record { hue = 0; saturation = 0; luma = 0; edges = cond b 0 0; count = w * h } ≡ no_sums
    by-edges true = rw z
    by-edges false = rw z

pub no_edges : (scored : Bool) (k w h : ℕ) (p : Planes) (store : List ℕ) → (frame_sums false scored k w h p store).edges ≡ 0
unfolding frame_sums
no_edges true k w h p store = refl
no_edges false k w h p store = refl
