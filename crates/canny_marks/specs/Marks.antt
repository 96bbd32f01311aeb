-- The two marks of a median m (RULES 5.4, 5.5). A pixel that stays is strong at or over the high mark, otherwise weak at or over the low one.
use Rattle.std.specs.Prelude.{cond, ℕ, ◌-◌, ◌*◌, ◌/◌, min, eqb}

-- the low mark: 0 for m = 0, otherwise floor((2m - 1) / 3)
unfoldable pub low_mark : ℕ → ℕ
low_mark m = cond (eqb m 0) 0 ((2 * m - 1) / 3)

-- the high mark: min(255, floor(4m / 3))
unfoldable pub high_mark : ℕ → ℕ
high_mark m = min 255 (4 * m / 3)
