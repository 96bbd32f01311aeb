-- A store whose fourth plane was replaced, and sums with another edge sum: what a frame call does last, where edges are on.
use Rattle.std.specs.Prelude.{List, ◌++◌, ℕ, ◌+◌, take}
use Rattle.stream.specs.declared.Sums.{Sums}
use Rattle.scoring.specs.Planes.{rest_part}

-- a store of planes of n bytes with another fourth plane
abbrev pub with_edge_plane : ℕ → List ℕ → List ℕ → List ℕ
with_edge_plane n plane store = take (n + (n + n)) store ++ (plane ++ rest_part n store)

-- s with e for the edge sum
abbrev pub with_edge_sum : Sums → ℕ → Sums
with_edge_sum s e = record { hue = s.hue; saturation = s.saturation; luma = s.luma; edges = e; count = s.count }
