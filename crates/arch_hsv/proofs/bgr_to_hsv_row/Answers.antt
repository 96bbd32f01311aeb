use mathlib.Core.Path.{◌∙◌}
use native.Mathlib.Omega.{arith}
use Rattle.std.proofs.Common.{rules}
use Rattle.arch_hsv.proofs.Pixels.{bounded, row_none, row-block, block-pixels, row_all}
use Rattle.arch_hsv.proofs.bgr_to_hsv_row.Goals as goal

pub loop-part-init : goal.loop-part-init
loop-part-init c = (search rules, tt, search rules, row_none _ _ _ _ (search rules))

pub store-requires : goal.store-requires
store-requires c =
    let e = c.measure.ensures in
    let s = c.in-Some.ensures.steps in
    let i = c.loop-part.invariant in
    let b = block-pixels c.in-Some.part.now _ i.3 c.requires.whole s.1.0 (rw i.2 at s.1.1) in
    record {
      m_bound = omega arith;
      out_len = i.3.size ∙ c.requires.out_len;
      inside = omega (arith, b.0, b.1, i.3.place);
      by_index = bounded c.in-Some.part.now e.v e.d e.k;
    }

pub loop-part-preserved : goal.loop-part-preserved
loop-part-preserved c =
    let e = c.measure.ensures in
    let s = c.in-Some.ensures.steps in
    let i = c.loop-part.invariant in (
      search rules,
      tt,
      s.0 ∙ i.2,
      row-block c.in-Some.part.now _ _ _ _ _ i.3 c.requires.whole s.1.0 (rw i.2 at s.1.1) e.v e.d e.k c.store.auto.out c.store.ensures,
    )

pub returns : goal.returns
returns c = row_all c.loop-part.invariant.3 c.in-None.ensures.steps.1.0
