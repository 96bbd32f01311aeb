use Rattle.std.proofs.Common.{◌≡◌, ◌+◌, ◌-◌, ◌*◌, refl, arith, take, drop, length-take}
use Rattle.canny_hysteresis.specs.Places.{weak_rows}
use Rattle.canny_hysteresis.proofs.Listing.{weak-short, added-none, added-more, added-count, rows-more, rows-none}
use Rattle.canny_hysteresis.proofs.list_weak.Goals as goal

pub returns-then-w-lt3 : goal.returns-then-w-lt3
returns-then-w-lt3 c = added-none _ _ _ (omega arith) (rows-none _ _ _ c.if-w-lt3.true)

pub loop-y-init : goal.loop-y-init
unfolding weak_rows
loop-y-init c = (added-none _ _ _ (omega arith) refl, omega arith)

pub loop-y-preserved : goal.loop-y-preserved
loop-y-preserved c =
    let i = c.loop-y.invariant in
    let w = c.args.w in
    let first = (c.loop-y.y + 1) * w + 1 in
    let n = first + (w - 2) - first in
    let rest = drop first c.args.s.now in
    let row = c.list_row-count.ensures in (
      added-more i.0 row (rows-more c.args.s.now w c.loop-y.y _ (omega arith)),
      omega (arith, i.1, added-count row (omega (arith, i.0.len, i.0.room)), weak-short first (take n rest), length-take n rest),
    )

pub returns : goal.returns
returns c = let e : c.args.h - 2 ≡ c.loop-y.y = omega arith in rw e c.loop-y.invariant.0
