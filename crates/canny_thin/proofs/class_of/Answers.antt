-- `canny_thin::class_of` meets its contract. Assumes nothing.
use Rattle.std.proofs.Common.{◌≡◌, arith}
use Rattle.std.proofs.lemmas.Int.{ints}
use lib.IntN.{pos}
use mir.Syntax.{w32}
use mir.Val.{to_z, of_z}
use lib.Signed.{le_z}
use mir.Facts.{to_z-of_z}
use Rattle.canny_thin.specs.Thin.{class_of}
use Rattle.canny_thin.proofs.Near.{bit_is, class-sum}
use Rattle.canny_thin.proofs.class_of.Goals as goal

-- the two tests, of the numbers themselves
pub returns : goal.returns
unfolding class_of
returns c =
    let a = c.args in
    let strong : to_z w32 (of_z w32 c.from.result) ≡ pos a.high = omega (arith, ints) in
    let weak : to_z w32 (of_z w32 c.from-2.result) ≡ pos a.low = omega (arith, ints) in
    let m = to_z-of_z c.ranges.m in
    let p = rw (strong, m, bit_is) at c.from-3.ensures in
    let q = rw (strong, weak, m, bit_is) at c.from-4.ensures in
    rw (p, q) (class-sum a.stay (le_z (pos a.high) a.m) (le_z (pos a.low) a.m))
