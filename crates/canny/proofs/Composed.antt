-- The planes of `Edges` by what the stages give.
use mathlib.Core.Path.{◌≡◌}
use mathlib.Core.List.{List}
use Prim.Native.Nat.{ℕ, ◌*◌, ◌≤◌, ◌<◌}
use lib.ListN.{replicate}
use borrow.Author.Tests.{lt-ltb, le-ltb}
use Rattle.dilate.specs.Dilate.{dilated}
use Rattle.canny.specs.Edges.{strong_plane, edge_plane}

module _ (luma out : List ℕ) (w h k : ℕ) where
  pub narrow-is : {n : ℕ} → w < 3 → n ≡ w * h → out ≡ replicate n 0 → out ≡ edge_plane luma w h k
  unfolding edge_plane
  narrow-is a n e = rw (lt-ltb w 3 a) (rw n at e)

  pub low-is : {n : ℕ} → 3 ≤ w → h < 3 → n ≡ w * h → out ≡ replicate n 0 → out ≡ edge_plane luma w h k
  unfolding edge_plane
  low-is a b n e = rw (le-ltb w 3 a, lt-ltb h 3 b) (rw n at e)

  pub edge-is : {s : List ℕ} → 3 ≤ w → 3 ≤ h → s ≡ strong_plane luma w h → out ≡ dilated s w h k → out ≡ edge_plane luma w h k
  unfolding edge_plane
  edge-is a b p e = rw (le-ltb w 3 a, le-ltb h 3 b, ← p) e

-- what each branch of `edge_plane` cites
pub ruleset branches = (narrow-is, low-is, edge-is)
