use Rattle.laws.proofs.Planes.{rows_more, rows_all}
use Rattle.arch_sobel.specs.Sobel.{sobel_mag, sobel_dir}
use Rattle.arch_sobel.proofs.sobel.Goals as goal

pub loop-y-preserved : goal.loop-y-preserved
loop-y-preserved c =
    let t = c.loop-y-test.true in
    let i = c.loop-y.invariant in
    record { mag = rows_more i.mag t c.magnitudes.ensures; dir = rows_more i.dir t c.direction_row.ensures }

pub returns : goal.returns
unfolding sobel_mag sobel_dir
returns c = record {
  mag_after = rows_all c.loop-y.invariant.mag c.loop-y-test.false;
  dir_after = rows_all c.loop-y.invariant.dir c.loop-y-test.false;
}
