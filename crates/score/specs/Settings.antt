-- The refusals 6 to 9 of settings (RULES 10.1), in their order (RULES 10.5).
use Rattle.std.specs.Prelude.{Bool, false, not, ◌&&◌, ◌||◌, [], ◌∷◌, ℕ, ◌%◌, ltb, eqb, Float, None, Option, Some}
use Rattle.std.specs.Float.Ieee.{le, eq}
use Rattle.refusal.specs.Refusal.{first_that}
use Rattle.score.specs.declared.Components.{Components}
use Rattle.laws.specs.Floats.{float}
use Rattle.score.specs.Floats.{abs_of}

-- a weight that is not finite, or beyond 2^20 in size; of a NaN `le` is false, so it is too heavy
unfoldable pub too_heavy : Float → Bool
too_heavy w = not (le (abs_of w) (float 1048576))

-- 6: one of the four weights is not finite, or beyond 2^20 in size
unfoldable pub any_too_heavy : Components → Bool
any_too_heavy w =
    too_heavy w.delta_hue || too_heavy w.delta_sat || too_heavy w.delta_lum || too_heavy w.delta_edges

-- 7: all weights are zero, where -0.0 is zero too. It is the Rust's `sum_abs() == 0.0` (proofs/ZeroSum.antt).
unfoldable pub all_zero : Components → Bool
all_zero w =
    eq w.delta_hue (float 0)
    && eq w.delta_sat (float 0)
    && eq w.delta_lum (float 0)
    && eq w.delta_edges (float 0)

-- 8: a k is set that is below 3 or even
abbrev pub bad_kernel : Option ℕ → Bool
bad_kernel None = false
bad_kernel (Some k) = ltb k 3 || eqb (k % 2) 0

-- the first of 6 to 9 that holds, or 0 (RULES 10.1, 10.5). 9 is a threshold or `min_content_val` that is NaN: each detector says by `nan`
-- whether one of its own is.
unfoldable pub settings_refusal : Components → Option ℕ → Bool → ℕ
settings_refusal weights kernel nan =
    first_that ((any_too_heavy weights, 6) ∷ (all_zero weights, 7) ∷ (bad_kernel kernel, 8) ∷ (nan, 9) ∷ [])
