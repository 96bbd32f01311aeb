-- The rows of a plane without their padding. Row y of a plane is the part that starts at byte y × stride, and is read there (RULES 2.3).
use Rattle.std.specs.Prelude.{List, ℕ, ◌+◌, ◌*◌, get_or}
use Rattle.laws.specs.Lists.{plane}

-- the w bytes of each of h rows, row after row, where row y of s starts at y * stride
unfoldable pub packed : List ℕ → ℕ → ℕ → ℕ → List ℕ
packed s w h stride = plane w h (λ x y. get_or s (y * stride + x) 0)
