-- The score (RULES 6.1 to 6.4): (h × wh + s × ws + l × wl + e × we) / (sum of the absolute weights), in f64, left to right, each step rounded
-- once. h, s, l and e are the components of a frame, also called its deltas; wh, ws, wl and we are the weights.
use Rattle.std.specs.Prelude.{Bool, Float}
use Rattle.std.specs.Float.{binary64}
use Rattle.std.specs.Float.Ieee.{add, mul, div, ne}
use Rattle.score.specs.declared.Components.{Components}
use Rattle.laws.specs.Floats.{float}
use Rattle.score.specs.Floats.{abs_of}

-- four doubles, as weights or as the components of a frame: hue, saturation, luma, edges (RULES 6.1)
abbrev pub components : Float → Float → Float → Float → Components
components h s l e = record { delta_hue = h; delta_sat = s; delta_lum = l; delta_edges = e }

-- the default weights: hue, saturation and luma count alike, and edges are off (RULES 8.1, 9.1)
abbrev pub default_weights : Components
default_weights = components (float 1) (float 1) (float 1) (float 0)

-- the weights by which luma alone counts
abbrev pub luma_only_weights : Components
luma_only_weights = components (float 0) (float 0) (float 1) (float 0)

-- the sum of the absolute weights, left to right (RULES 6.3)
unfoldable pub sum_abs : Components → Float
sum_abs w =
    add binary64
    (add binary64 (add binary64 (abs_of w.delta_hue) (abs_of w.delta_sat)) (abs_of w.delta_lum))
    (abs_of w.delta_edges)

-- the sum of the deltas, each times its weight, left to right (RULES 6.2). The edge term counts with edges off as well (RULES 6.4).
unfoldable pub weighed : Components → Components → Float
weighed d w =
    add binary64
    (add binary64
    (add binary64 (mul binary64 d.delta_hue w.delta_hue) (mul binary64 d.delta_sat w.delta_sat))
    (mul binary64 d.delta_lum w.delta_lum))
    (mul binary64 d.delta_edges w.delta_edges)

-- the score of these deltas under these weights (RULES 6.2)
unfoldable pub score_of : Components → Components → Float
score_of d w = div binary64 (weighed d w) (sum_abs w)

-- edges are on when the edge weight is not 0; -0.0 is 0 (RULES 5.1)
unfoldable pub edges_enabled : Components → Bool
edges_enabled w = ne w.delta_edges (float 0)
