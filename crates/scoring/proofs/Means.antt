-- The components of a scored frame are the means of its planes' differences with the store (RULES 4.2, 4.3): the sums that it shows, over its
-- count, are what the plane difference gives as its mean.
use mathlib.Core.Path.{◌≡◌}
use mathlib.Core.List.{List}
use Prim.Native.Nat.{ℕ}
use lib.ListN.{length}
use Rattle.arch_planes.specs.Difference.{sum_abs_diff, mean_abs_diff}
use Rattle.score.specs.Scores.{components}
use Rattle.stream.specs.Stream.{components_of}
use Rattle.scoring.specs.Planes.{Planes, hue_part, saturation_part, luma_part, edge_part}
use Rattle.scoring.specs.Sums.{plane_sums}

pub means : (n : ℕ) (p : Planes) (edge store : List ℕ) → length p.hue ≡ n → length p.saturation ≡ n → length p.luma ≡ n → length edge ≡ n
    → components_of (plane_sums n p (sum_abs_diff edge (edge_part n store)) store)
    ≡ components (mean_abs_diff p.hue (hue_part n store)).mean (mean_abs_diff p.saturation (saturation_part n store)).mean
    (mean_abs_diff p.luma (luma_part n store)).mean (mean_abs_diff edge (edge_part n store)).mean
unfolding components_of mean_abs_diff
means n p edge store eh es el ee = rw (eh, es, el, ee)
