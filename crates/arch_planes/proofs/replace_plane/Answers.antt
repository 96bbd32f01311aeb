-- `arch_planes::replace_plane` meets its contract: rows that lie one after the other are one piece.
use mathlib.Core.Path.{◌≡◌, sym, ◌∙◌}
use Rattle.arch_planes.specs.Packed.{packed}
use lib.ListN.{take}
use Prim.Native.Nat.{◌*◌}
use Rattle.arch_planes.proofs.Totals.{close_packed, close_end}
use Rattle.arch_planes.proofs.replace_plane.Goals as goal

pub returns-then-stride-w : goal.returns-then-stride-w
returns-then-stride-w c =
    let src = c.args.src.now in
    let s = c.args in
    let end = close_end s.w s.h _ (rw c.if-stride-w.true at c.requires.by_index) in
    let piece : packed src s.w s.h s.stride ≡ take (s.w * s.h) src = rw c.if-stride-w.true (close_packed src s.w s.h end) in
    record { value = rw piece c.replace_runs.ensures.value; replaced = c.replace_runs.ensures.replaced ∙ sym piece }
