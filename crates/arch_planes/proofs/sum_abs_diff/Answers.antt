-- `arch_planes::sum_abs_diff` meets its contract, block by block.
use mathlib.Core.Path.{◌≡◌, ap, ◌∙◌}
use native.Mathlib.Omega.{arith}
use Prim.Native.Nat.{ℕ, ◌+◌, ◌-◌, ◌*◌, ◌/◌}
use lib.ListN.{length}
use Rattle.laws.proofs.Parts.{length_part}
use Rattle.laws.proofs.Planes.{width}
use Rattle.arch_planes.proofs.Totals.{below_none, below_more, below_all}
use Rattle.arch_planes.proofs.sum_abs_diff.Goals as goal

pub loop-i-init : goal.loop-i-init
loop-i-init c = record { most = omega arith; summed = below_none c.args.a.now c.args.b.now }

pub loop-i-preserved : goal.loop-i-preserved
loop-i-preserved c =
    let at = 32 * c.loop-i.i in
    let a = c.args.a.now in
    let next : 32 * (c.loop-i.i + 1) ≡ at + 32 = omega arith in
    let value = rw (width at 32) at c.block_sum-total.ensures.value in
    let bound = rw (width at 32) at c.block_sum-total.ensures.bound in
    let more = below_more a c.args.b.now at 32 c.block_sum-total.result (omega arith) value in
    record {
      most = omega (arith, bound, length_part at 32 a (omega arith));
      summed = rw next (ap (λ (t : ℕ). t + c.block_sum-total.result) c.loop-i.invariant.summed ∙ more);
    }

-- and then what follows the last block
pub returns : goal.returns
returns c =
    let a = c.args.a.now in
    let b = c.args.b.now in
    let at = length a / 32 * 32 in
    let i : 32 * c.loop-i.i ≡ at = omega arith in
    let end : at + (length a - at) ≡ length a = omega arith in
    let value = rw (← c.requires.a_len) at c.block_sum.ensures.value in
    let more = below_more a b at (length a - at) c.block_sum.result (omega arith) value in
    let e = ap (λ (t : ℕ). t + c.block_sum.result) (rw i at c.loop-i.invariant.summed) ∙ more ∙ below_all a b (at + (length a - at)) end in
    record { value = e; bound = omega (arith, length_part at (length a - at) a (omega arith)) }
