-- An edge plane has as many bytes as the frame has pixels.
use mathlib.Core.Path.{◌≡◌}
use mathlib.Core.Bool.{Bool, true, false, cond, ◌||◌}
use mathlib.Core.List.{List}
use Prim.Native.Nat.{ℕ, ◌*◌}
use lib.Dec.{ltb}
use lib.ListN.{length, replicate, length-replicate}
use Rattle.laws.proofs.Tab.{length-tabulate}
use Rattle.dilate.specs.Dilate.{dilated}
use Rattle.canny.specs.Edges.{strong_plane, edge_plane}

pub edge-length : (luma : List ℕ) (w h k : ℕ) → length (edge_plane luma w h k) ≡ w * h
unfolding edge_plane dilated
edge-length luma w h k = by-small (ltb w 3 || ltb h 3)
  where
    by-small : (b : Bool) → length (cond b (replicate (w * h) 0) (dilated (strong_plane luma w h) w h k)) ≡ w * h
    by-small true = length-replicate (w * h) 0
    by-small false = length-tabulate (w * h) _
