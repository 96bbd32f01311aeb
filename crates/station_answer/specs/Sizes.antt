-- The memory that a frame of a size needs (RULES 12.1, 15.8). A size that every call refuses by 1 needs none.
use Rattle.std.specs.Prelude.{cond, ℕ, ◌+◌, ◌*◌, max}
use Rattle.frame.specs.Checks.{too_large}

-- bytes of the store: four planes
unfoldable pub store_bytes : ℕ → ℕ → ℕ
store_bytes w h = cond (too_large w h) 0 (4 * (w * h))

-- bytes of the scratch: seven planes and twice the longer side
unfoldable pub scratch_bytes : ℕ → ℕ → ℕ
scratch_bytes w h = cond (too_large w h) 0 (7 * (w * h) + 2 * max w h)

-- magnitudes: one number for each pixel
unfoldable pub magnitudes_count : ℕ → ℕ → ℕ
magnitudes_count w h = cond (too_large w h) 0 (w * h)
