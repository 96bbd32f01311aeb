use mathlib.Core.Path.{◌≡◌, refl, ◌∙◌}
use Prim.Native.Nat.{◌+◌, ◌-◌, ◌<◌}
use native.Mathlib.Omega.{arith}
use Rattle.laws.proofs.Int.{back32}
use Rattle.laws.proofs.Tab.{filled_none, filled_more, filled-all}
use Rattle.arch_sobel.proofs.Inner.{is-inner, mag-inner, at_left, at_right, at-border, border-mag}
use Rattle.arch_sobel.proofs.Plane.magnitudes.Goals as goal
use Rattle.arch_sobel.proofs.Plane.magnitudes.Goals.{then-y-eq0-via-then-y-eq0, then-y-eq0-via-else-y-eq0+then-self-y, then-y-eq0-via-else-y-eq0+else-self-y+then-self-lt2}

pub returns-then-y-eq0 : goal.returns-then-y-eq0
returns-then-y-eq0 c =
    let p = c.args.self in
    let y = c.args.y in
    -- one of the three tests held
    let outside : 0 < y → y + 1 < p.h → 1 < p.w → ⊥ =
    λ a b d.
    elim c.then-y-eq0.branch [
      | then-y-eq0-via-then-y-eq0 w ↦ omega (arith, w.if-y-eq0.true)
      | then-y-eq0-via-else-y-eq0+then-self-y w ↦ omega (arith, w.if-self-y.true)
      | then-y-eq0-via-else-y-eq0+else-self-y+then-self-lt2 w ↦ omega (arith, w.if-self-lt2.true)
    ] in
    border-mag p.bytes.now p.w p.h y outside _ _ c.requires.mag_len (c.fill.ensures.after (λ y e. e))

pub loop-x-init : goal.loop-x-init
loop-x-init c =
    let a = c.args in
    let p = a.self in
    filled_more _ (filled_none _ _ _ a.mag.now c.requires.mag_len) (omega arith) (at-border p.bytes.now p.w p.h 0 a.y (at_left p.w p.h 0 a.y refl)).0

pub loop-x-preserved : goal.loop-x-preserved
loop-x-preserved c =
    let p = c.args.self in
    let x = c.loop-x.x in
    let y = c.args.y in
    let g = c.gradient.ensures in
    let m = c.magnitude in
    let i = is-inner {w = p.w} {h = p.h} {x = x} {y = y} (record { left = omega arith; right = omega arith; top = omega arith; bottom = omega arith }) in
    filled_more _ c.loop-x.invariant (omega arith) (back32 m.result (rw m.ensures (omega arith)) ∙ m.ensures ∙ mag-inner p.bytes.now p.w p.h x y i g.gx g.gy)

pub returns : goal.returns
returns c =
    let p = c.args.self in
    let e : c.loop-x.x ≡ p.w - 1 = omega arith in
    let z = (at-border p.bytes.now p.w p.h (p.w - 1) c.args.y (at_right p.w p.h (p.w - 1) c.args.y (omega arith))).0 in
    filled-all (filled_more _ (rw e at c.loop-x.invariant) (omega arith) z) (omega arith)
