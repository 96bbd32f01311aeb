-- `arch_planes::replace_rows` meets its contract, row by row.
use mathlib.Core.Path.{◌≡◌, ap, ◌∙◌}
use native.Mathlib.Omega.{arith}
use Prim.Native.Nat.{ℕ, ◌+◌, ◌-◌, ◌*◌, ◌≤◌}
use lib.ListN.{length, take, drop}
use Rattle.laws.proofs.Parts.{length_part, part-tabulate}
use Rattle.laws.proofs.Planes.{width}
use Rattle.laws.proofs.InPlace.{mapped-rows-none, mapped-rows-more, mapped-rows-all}
use Rattle.arch_planes.specs.Packed.{packed}
use Rattle.arch_planes.proofs.Totals.{above_none, above_more, above_all}
use Rattle.arch_planes.proofs.replace_rows.Goals as goal

pub loop-y-init : goal.loop-y-init
loop-y-init c = record { most = omega arith; summed = above_none _ _ _ _ _; replaced = mapped-rows-none c.requires.dst_len }

-- row y is now the part of src that replaced it
pub loop-y-preserved : goal.loop-y-preserved
loop-y-preserved c =
    let y = c.loop-y.y in
    let s = c.args in
    let R = c.loop-y.invariant.replaced in
    let inside : y * s.stride + s.w ≤ length s.src.now = c.requires.by_index y c.loop-y-test.true in
    let long : length (take (y * s.stride + s.w - y * s.stride) (drop (y * s.stride) s.src.now)) ≡ s.w = rw (width (y * s.stride) s.w) (length_part (y * s.stride) s.w s.src.now inside) in
    let new = rw (width (y * s.stride) s.w) at c.replace_row-total.ensures.replaced in
    let next : (y + 1) * s.w ≡ y * s.w + s.w = omega arith in
    record {
      most = rw next (omega (arith, long));
      summed = ap (λ (t : ℕ). t + c.replace_row-total.result) c.loop-y.invariant.summed
          ∙ above_more s.src.now s.dst.now c.loop-y.dst s.w s.h s.stride y c.replace_row-total.result c.loop-y-test.true inside R.mapped.rest c.replace_row-total.ensures.value;
      replaced = mapped-rows-more R c.loop-y-test.true (new ∙ part-tabulate (y * s.stride) s.w s.src.now 0 inside);
    }

pub returns : goal.returns
unfolding packed
returns c =
    let last : c.loop-y.y ≡ c.args.h = omega arith in
    let all : c.loop-y.y * c.args.w ≡ c.args.w * c.args.h = rw last (omega arith) in
    record {
      value = c.loop-y.invariant.summed ∙ above_all c.args.src.now c.args.dst.now c.args.w c.args.h c.args.stride c.loop-y.y last;
      bound = omega (arith, c.loop-y.invariant.most, all);
      replaced = mapped-rows-all c.loop-y.invariant.replaced c.loop-y-test.false;
    }
