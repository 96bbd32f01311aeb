-- The absolute value of an f64, by which weights are summed (RULES 6.3) and the size of a weight or an average is tested (RULES 9.8, 10.1).
use Rattle.std.specs.Prelude.{false, Float}
use Rattle.std.specs.Float.{nan, inf, fin}

-- |x|: the sign is dropped, that of a zero too
abbrev pub abs_of : Float → Float
abs_of nan = nan
abs_of (inf s) = inf false
abs_of (fin s m e) = fin false m e
