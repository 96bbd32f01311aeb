-- What the private functions of the conversion know of their table of reciprocals.
use Rattle.std.specs.Prelude.{◌≡◌, List, ℕ, ◌*◌, ◌/◌, ◌≤◌, ◌<◌, get_or}

-- a product with t, divided by 2^32, is the quotient by 2b, of every n as large as the conversion has them (0 for b = 0)
abbrev pub Reciprocal : ℕ → ℕ → Type 0
Reciprocal b t = (n : ℕ) → n ≤ 511 * b → n * t / 4294967296 ≡ n / (2 * b)

-- entry b is for 2b
abbrev pub Reciprocals : List ℕ → Type 0
Reciprocals t = (b : ℕ) → b < 256 → Reciprocal b (get_or t b 0)
