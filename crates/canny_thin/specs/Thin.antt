-- Thinning (RULES 5.8, 5.9). An inner pixel stays if its magnitude is above 0 and not below that of its two neighbours along its direction.
-- For directions 0 to 3 one of them lies at (1, 0), (1, 1), (0, 1), (1, -1), each (across, down), and the other at the opposite place. A
-- pixel that stays is strong when its magnitude is at or over the high mark, otherwise weak when it is at or over the low mark.
-- mag is a plane of magnitudes, dir one of directions, of w columns and h rows; a direction over 3 counts as 3.
-- A class is 0 for none, 1 for weak, 2 for strong.
use Rattle.std.specs.Prelude.{Bool, cond, ◌&&◌, List, ℕ, zero, suc, ◌+◌, ◌-◌, ◌*◌, get_or, ℤ, pos}
use Rattle.std.specs.Int.Signed.{le_z, lt_z}
use Rattle.laws.specs.Lists.{plane}
use Rattle.arch_sobel.specs.Sobel.{inner}

-- the magnitude at column x of row y
abbrev pub magnitude : List ℤ → ℕ → ℕ → ℕ → ℤ
magnitude mag w x y = get_or mag (y * w + x) (pos 0)

-- the magnitude of the neighbour of column x of row y that lies at (1, 0), (1, 1), (0, 1), (1, -1) for directions 0 to 3
unfoldable pub ahead : List ℤ → ℕ → ℕ → ℕ → ℕ → ℤ
ahead mag w zero x y = magnitude mag w (x + 1) y
ahead mag w (suc zero) x y = magnitude mag w (x + 1) (y + 1)
ahead mag w (suc (suc zero)) x y = magnitude mag w x (y + 1)
ahead mag w (suc (suc (suc d))) x y = magnitude mag w (x + 1) (y - 1)

-- the magnitude of the other neighbour along the direction, at the opposite place
unfoldable pub behind : List ℤ → ℕ → ℕ → ℕ → ℕ → ℤ
behind mag w zero x y = magnitude mag w (x - 1) y
behind mag w (suc zero) x y = magnitude mag w (x - 1) (y - 1)
behind mag w (suc (suc zero)) x y = magnitude mag w x (y - 1)
behind mag w (suc (suc (suc d))) x y = magnitude mag w (x - 1) (y + 1)

-- a pixel of magnitude m between neighbours of magnitudes a and b stays: m is above 0 and below neither
abbrev pub stays : ℤ → ℤ → ℤ → Bool
stays m a b = lt_z (pos 0) m && (le_z a m && le_z b m)

-- the class of a pixel that stays, by its magnitude m
unfoldable pub class_of : ℕ → ℕ → ℤ → ℕ
class_of low high m = cond (le_z (pos high) m) 2 (cond (le_z (pos low) m) 1 0)

-- the class of column x of row y, where the direction is d
unfoldable pub class_at : List ℤ → ℕ → ℕ → ℕ → ℕ → ℕ → ℕ → ℕ → ℕ
class_at mag w h low high d x y =
    cond (inner w h x y && stays (magnitude mag w x y) (ahead mag w d x y) (behind mag w d x y))
    (class_of low high (magnitude mag w x y)) 0

-- the plane of classes
unfoldable pub thinned : List ℤ → List ℕ → ℕ → ℕ → ℕ → ℕ → List ℕ
thinned mag dir w h low high = plane w h (λ x y. class_at mag w h low high (get_or dir (y * w + x) 0) x y)
