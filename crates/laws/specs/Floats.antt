-- Whole numbers as f64.
use Rattle.std.specs.Prelude.{ℕ, pos, Float}
use Rattle.std.specs.Float.{binary64}
use Rattle.std.specs.Float.Ieee.{of_int}

abbrev pub float : ℕ → Float
float n = of_int binary64 (pos n)
