-- Instances of the definitions, computed.
use Rattle.std.proofs.Common.{None, Some}
use mathlib.Core.Path.{◌≡◌, refl}
use mathlib.Core.Bool.{true, false}
use Prim.Native.Nat.{ℕ}
use lib.IntN.{pos}
use lib.Ieee.{Float, nan, inf, fin, binary64, add, mul, div, eq, ne, le, of_int, of_bits}
use Rattle.laws.specs.Floats.{float}
use Rattle.score.specs.Scores.{components, default_weights, luma_only_weights, sum_abs, weighed, score_of, edges_enabled}
use Rattle.score.specs.Settings.{too_heavy, any_too_heavy, all_zero, settings_refusal}

bits : ℕ → Float
bits n = of_bits binary64 n

-- weights 0.5, 0.1, 0.7, 0 with all deltas 255: the score is 255.00000000000003
past-255 :
    score_of (components (float 255) (float 255) (float 255) (float 255))
    (components (bits 0x3fe0000000000000) (bits 0x3fb999999999999a) (bits 0x3fe6666666666666) (float 0))
    ≡ bits 0x406fe00000000001
unfolding bits score_of weighed sum_abs add mul div of_int of_bits
past-255 = refl

-- an edge weight of -0.0 leaves edges off, and shows in the sign of a zero score
minus : Float
minus = fin true 1 (pos 0)

still : Float → Float
still edges = score_of (components (float 0) (float 0) (float 0) (float 0)) (components minus minus minus edges)

edges-off : (edges_enabled default_weights ≡ false) × (edges_enabled (components minus minus minus (fin true 0 (pos 0))) ≡ false)
unfolding minus edges_enabled ne of_int
edges-off = (refl, refl)

signs : (still (fin false 0 (pos 0)) ≡ fin false 0 (pos 0)) × (still (fin true 0 (pos 0)) ≡ fin true 0 (pos 0))
unfolding minus still score_of weighed sum_abs add mul div of_int
signs = (refl, refl)

-- the refusal of w as the hue weight, beside zeros
by : Float → ℕ
by w = settings_refusal (components w (float 0) (float 0) (float 0)) None false

-- 2^20 passes, the next f64 does not; nor do a NaN and an infinity; zeros are 7
weights : (by (float 1048576) ≡ 0) × (by (bits 0x4130000000000001) ≡ 6) × (by nan ≡ 6) × (by (inf true) ≡ 6) × (by (float 0) ≡ 7) × (by (fin true 0 (pos 0)) ≡ 7)
unfolding bits by settings_refusal any_too_heavy too_heavy all_zero le eq of_int of_bits
weights = (refl, refl, refl, refl, refl, refl)

-- k of 2, 3, 4 and 5; a NaN threshold is named after a bad k
kernels :
    (settings_refusal default_weights (Some 2) false ≡ 8)
    × (settings_refusal default_weights (Some 3) false ≡ 0)
    × (settings_refusal default_weights (Some 4) true ≡ 8)
    × (settings_refusal luma_only_weights (Some 5) true ≡ 9)
unfolding settings_refusal any_too_heavy too_heavy all_zero le eq of_int
kernels = (refl, refl, refl, refl)
