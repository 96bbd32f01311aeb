-- `arch_planes::replace_runs` meets its contract: the runs, which are rows that lie one after the other, and then what is left.
use mathlib.Core.Path.{◌∙◌}
use native.Mathlib.Omega.{arith}
use Prim.Native.Nat.{◌*◌, ◌/◌, ◌≤◌}
use lib.ListN.{length, take, drop, take-append-drop}
use lib.Seq.{length-take-le}
use Rattle.std.proofs.lemmas.List.{take_rest}
use Rattle.arch_planes.proofs.Totals.{close_packed, pieces_summed, pieces_put}
use Rattle.arch_planes.proofs.replace_runs.Goals as goal

pub returns : goal.returns
returns c =
    let src = c.args.src.now in
    let dst = c.args.dst.now in
    let n = 1024 * (length src / 1024) in
    let inside : n ≤ length src = omega arith in
    let size = length-take-le n src inside in
    let runs = close_packed src 1024 (length src / 1024) inside in
    let rest = take_rest src n in
    let whole = take-append-drop n src in
    let new = c.replace_rows-total.ensures.replaced ∙ runs in
    let runs_sum = rw runs at c.replace_rows-total.ensures.value in
    let rest_sum = rw rest at c.replace_row.ensures.value in
    record {
      value = pieces_summed (take n src) (drop n src) src dst _ n _ _ size whole new runs_sum rest_sum;
      replaced = pieces_put (take n src) (drop n src) src dst _ _ n size whole new (c.replace_row.ensures.replaced ∙ rest);
    }
