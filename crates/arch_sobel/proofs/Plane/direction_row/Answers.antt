use mathlib.Core.Path.{refl}
use Prim.Native.Nat.{◌+◌, ◌-◌, ◌<◌}
use native.Mathlib.Omega.{arith}
use Rattle.laws.proofs.Tab.{filled_none, filled_more, filled-all}
use Rattle.arch_sobel.specs.Sobel.{dir_at}
use Rattle.arch_sobel.proofs.Inner.{at_left, at_right, at-border, border-dir}
use Rattle.laws.proofs.Parts.{part-filled}
use Rattle.arch_sobel.proofs.Plane.direction_row.Goals as goal
use Rattle.arch_sobel.proofs.Plane.direction_row.Goals.{then-y-eq0-via-then-y-eq0, then-y-eq0-via-else-y-eq0+then-self-y, then-y-eq0-via-else-y-eq0+else-self-y+then-self-lt2}

pub returns-then-y-eq0 : goal.returns-then-y-eq0
returns-then-y-eq0 c =
    let p = c.args.self in
    let y = c.args.y in
    -- one of the three tests held
    let outside : 0 < y → y + 1 < p.h → 1 < p.w → ⊥ =
    λ a b d.
    elim c.then-y-eq0.branch [
      | then-y-eq0-via-then-y-eq0 w ↦ omega (arith, w.if-y-eq0.true)
      | then-y-eq0-via-else-y-eq0+then-self-y w ↦ omega (arith, w.if-self-y.true)
      | then-y-eq0-via-else-y-eq0+else-self-y+then-self-lt2 w ↦ omega (arith, w.if-self-lt2.true)
    ] in
    border-dir p.bytes.now p.w p.h y outside _ _ c.requires.dir_len (c.fill.ensures.after (λ y e. e))

pub returns : goal.returns
returns c =
    let a = c.args in
    let p = a.self in
    let first = (at-border p.bytes.now p.w p.h 0 a.y (at_left p.w p.h 0 a.y refl)).1 in
    let last = (at-border p.bytes.now p.w p.h (p.w - 1) a.y (at_right p.w p.h (p.w - 1) a.y (omega arith))).1 in
    let F = filled_more _ (filled_none 0 (λ x. dir_at p.bytes.now p.w p.h x a.y) p.w a.dir.now c.requires.dir_len) (omega arith) first in
    filled-all (filled_more _ (part-filled F (omega arith) (omega arith) (omega arith) refl c.directions.ensures) (omega arith) last) (omega arith)
