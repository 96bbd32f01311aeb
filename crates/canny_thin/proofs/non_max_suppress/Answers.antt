use native.Mathlib.Omega.{arith}
use Rattle.laws.proofs.Planes.{rows_none, rows_more, rows_all}
use Rattle.arch_sobel.specs.Sobel.{sobel_mag}
use Rattle.canny_thin.proofs.Near.{by-directions}
use Rattle.canny_thin.proofs.Rows.{ready-none, ready-more, ready-all, row-ready}
use Rattle.canny_thin.proofs.non_max_suppress.Goals as goal

pub loop-y-init : goal.loop-y-init
loop-y-init c = record { ready = ready-more (ready-none c.requires.mag_len.0) c.magnitude_row.ensures; rows = rows_none c.requires.mag_len.1 }

pub loop-y-preserved : goal.loop-y-preserved
loop-y-preserved c =
    let i = c.loop-y.invariant in
    let R = ready-more i.ready c.magnitude_row-in-loop-y.ensures in
    record { ready = R; rows = rows_more i.rows c.loop-y-test.true (row-ready c.args.low c.args.high c.loop-y.y _ R (omega arith) c.row.ensures) }

pub returns-clause-mag_after : goal.returns-clause-mag_after
returns-clause-mag_after c = ready-all c.loop-y.invariant.ready (omega arith)

pub returns-clause-classes_after : goal.returns-clause-classes_after
returns-clause-classes_after c =
    let a = c.args in
    by-directions a.luma.now (sobel_mag a.luma.now a.w a.h) a.w a.h a.low a.high _ (rows_all c.loop-y.invariant.rows c.loop-y-test.false)
