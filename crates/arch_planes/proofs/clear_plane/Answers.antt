-- `arch_planes::clear_plane` meets its contract: runs of zeros, and then a part of one, are zeros.
use mathlib.Core.Path.{◌∙◌}
use native.Mathlib.Omega.{arith}
use Prim.Native.Nat.{ℕ, ◌-◌, ◌*◌, ◌/◌, ◌^◌, ◌≤◌}
use native.Mathlib.Nat.{mul-le-mul_right}
use mathlib.Core.List.{List}
use Rattle.std.proofs.lemmas.List.{length-take}
use Rattle.laws.specs.Lists.{tabulate}
use Rattle.laws.proofs.Tab.{length-tabulate}
use Rattle.arch_planes.proofs.Totals.{zeros_packed, zeros_taken, zeros_joined, pieces_summed, pieces_put}
use Rattle.arch_planes.proofs.clear_plane.Goals as goal

-- a frame has 2 ^ 24 bytes at most
frame_bound : (w h : ℕ) → w ≤ 4096 → h ≤ 4096 → w * h ≤ 2 ^ 24
frame_bound w h a b = omega (arith, mul-le-mul_right h a, mul-le-mul_right 4096 b)

pub replace_rows-total-requires-clause-dst_len_bound : goal.replace_rows-total-requires-clause-dst_len_bound
replace_rows-total-requires-clause-dst_len_bound c = omega (arith, frame_bound c.args.w c.args.h c.requires.sides.0 c.requires.sides.1)

pub overflow_add-result : goal.overflow_add-result
overflow_add-result c =
    let runs_bound = c.replace_rows-total.ensures.bound in
    let rest_bound = c.replace_row.ensures.bound in
    grind (arith, length-take, frame_bound c.args.w c.args.h c.requires.sides.0 c.requires.sides.1, runs_bound, rest_bound)

pub returns : goal.returns
returns c =
    let dst = c.args.dst.now in
    let size = c.args.w * c.args.h in
    let n = 1024 * (size / 1024) in
    let zeros : ℕ → List ℕ = λ k. tabulate k (λ _. 0) in
    let long = length-tabulate {A = ℕ} n (λ _. 0) in
    let runs = zeros_packed 1024 1024 (size / 1024) (omega arith) in
    let rest = zeros_taken (size - n) 1024 (omega arith) in
    let whole = zeros_joined n (size - n) size (omega arith) in
    let new = c.replace_rows-total.ensures.replaced ∙ runs in
    let runs_sum = rw runs at c.replace_rows-total.ensures.value in
    let rest_sum = rw rest at c.replace_row.ensures.value in
    record {
      value = pieces_summed (zeros n) (zeros (size - n)) (zeros size) dst _ n _ _ long whole new runs_sum rest_sum;
      cleared = pieces_put (zeros n) (zeros (size - n)) (zeros size) dst _ _ n long whole new (c.replace_row.ensures.replaced ∙ rest);
    }
