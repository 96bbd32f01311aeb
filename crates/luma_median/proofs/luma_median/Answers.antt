-- `luma_median::luma_median` meets its contract: the frame's rows are counted, in one piece or one by one. Assumes nothing.
use Rattle.std.proofs.Common.{sym, ◌∙◌, ap, arith}
use Rattle.canny_marks.specs.Median.{median_of}
use Rattle.luma_median.proofs.Rows.{in_one, in_one-fits, packed-bytes, packed-length}
use Rattle.luma_median.proofs.luma_median.Goals as goal

pub returns-then-stride-width-clause-value : goal.returns-then-stride-width-clause-value
returns-then-stride-width-clause-value c =
    let f = c.args in
    let same = c.if-stride-width.true in
    let rows = rw same at c.in_ok-check_luma.ensures.rows in
    rw same (c.median_u8.ensures ∙ ap median_of (in_one f.plane.now f.width f.height (in_one-fits f.plane.now f.width f.height rows)))

pub returns-clause-value : goal.returns-clause-value
returns-clause-value c =
    let f = c.args in
    let s = f.plane.now in
    c.median_of_histogram.ensures _
    (packed-bytes s f.width f.height f.stride (λ i. omega (arith, c.type_inv.plane i)))
    c.count_rows-counts.ensures (sym (packed-length s f.width f.height f.stride))
