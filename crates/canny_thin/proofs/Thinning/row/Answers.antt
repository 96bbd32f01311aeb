use mathlib.Core.Path.{refl}
use Prim.Native.Nat.{◌+◌, ◌-◌, ◌<◌}
use native.Mathlib.Omega.{arith}
use Rattle.arch_sobel.specs.Sobel.{dir_at}
use Rattle.arch_sobel.proofs.Inner.{at_left, at_right}
use Rattle.canny_thin.proofs.Near.{class-border, class-zeros}
use Rattle.canny_thin.proofs.Rows.{begun, begun-more, begun-all, part-clear}
use Rattle.canny_thin.proofs.Thinning.row.Goals as goal
use Rattle.canny_thin.proofs.Thinning.row.Goals.{then-y-eq0-via-then-y-eq0, then-y-eq0-via-else-y-eq0+then-self-y, then-y-eq0-via-else-y-eq0+else-self-y+then-self-lt2}

pub returns-then-y-eq0 : goal.returns-then-y-eq0
returns-then-y-eq0 c =
    let p = c.args.self in
    let y = c.args.y in
    -- one of the three tests held
    let outside : 0 < y → y + 1 < p.luma.h → 1 < p.luma.w → ⊥ =
    λ a b d.
    elim c.then-y-eq0.branch [
      | then-y-eq0-via-then-y-eq0 w ↦ omega (arith, w.if-y-eq0.true)
      | then-y-eq0-via-else-y-eq0+then-self-y w ↦ omega (arith, w.if-self-y.true)
      | then-y-eq0-via-else-y-eq0+else-self-y+then-self-lt2 w ↦ omega (arith, w.if-self-lt2.true)
    ] in
    class-zeros p.luma.bytes.now p.mag.now p.luma.w p.luma.h p.low p.high y _ _ c.requires.row_len outside (c.fill.ensures.after (λ y e. e))

pub loop-x-init : goal.loop-x-init
loop-x-init c =
    let a = c.args in
    let p = a.self in
    let l = p.luma in
    let z = class-border p.mag.now l.w l.h p.low p.high (dir_at l.bytes.now l.w l.h 0 a.y) 0 a.y (at_left l.w l.h 0 a.y refl) in
    record { begun = begun _ l.w _ _ (c.fill.ensures.after (λ y e. e)) c.requires.row_len z (omega arith); within = omega arith }

pub class_block-requires-clause-clear : goal.class_block-requires-clause-clear
class_block-requires-clause-clear c = part-clear (c.loop-x.x + c.min.result) c.loop-x.invariant.begun (omega arith) (omega arith)

pub loop-x-preserved : goal.loop-x-preserved
loop-x-preserved c = record {
  begun = begun-more {e = c.loop-x.x + c.min.result} c.loop-x.invariant.begun (omega arith) (omega arith) (omega arith) (omega arith) c.class_block.ensures;
  within = omega arith;
}

-- the last column is 0
pub returns-else-self-lt2 : goal.returns-else-self-lt2
returns-else-self-lt2 c =
    let a = c.args in
    let p = a.self in
    let l = p.luma in
    begun-all c.loop-x.invariant.begun (λ x h b. class-border p.mag.now l.w l.h p.low p.high (dir_at l.bytes.now l.w l.h x a.y) x a.y (at_right l.w l.h x a.y (omega arith)))

pub returns-else-self-lt2-2 : goal.returns-else-self-lt2-2
returns-else-self-lt2-2 c =
    let a = c.args in
    let p = a.self in
    let l = p.luma in
    begun-all (begun-more {e = c.loop-x.x + c.min.result} {i = l.w - 1} c.loop-x.invariant.begun (omega arith) (omega arith) (omega arith) (omega arith) c.class_block.ensures)
    (λ x h b. class-border p.mag.now l.w l.h p.low p.high (dir_at l.bytes.now l.w l.h x a.y) x a.y (at_right l.w l.h x a.y (omega arith)))
