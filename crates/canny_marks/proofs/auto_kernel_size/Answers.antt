-- `canny_marks::auto_kernel_size` meets its contract. Assumes nothing.
use Rattle.std.proofs.Common.{◌≡◌, refl, ℕ, ◌+◌, ◌*◌, ◌/◌, ◌≤◌, arith}
use Rattle.std.proofs.lemmas.Nat.{one_shl}
use native.Mathlib.Nat.{mul-le-mul}
use borrow.Author.Tests.{eq-eqb, ne_eqb}
use Rattle.canny_marks.specs.Kernel.{spread, auto_kernel_size}
use Rattle.canny_marks.proofs.Greatest.{spread_root}
use Rattle.canny_marks.proofs.Root.{Between, first, upper, lower}
use Rattle.canny_marks.proofs.auto_kernel_size.Goals as goal
use Rattle.canny_marks.proofs.auto_kernel_size.Goals.{then-root-half, else-root-half}

pub returns-then-n-lt9216 : goal.returns-then-n-lt9216
unfolding auto_kernel_size
returns-then-n-lt9216 c =
    rw (← c.from.ensures, ← c.from-2.ensures, ← spread_root (c.from.result * c.from-2.result) 0 0 (omega arith) (omega arith) refl)

pub loop-gap-init : goal.loop-gap-init
loop-gap-init c =
    rw (one_shl (c.ilog2.result / 2) 64 (omega (arith, c.ilog2.ensures.bound)))
    (first _ _ _ refl c.ilog2.ensures.power_le c.ilog2.ensures.next_power_gt c.ilog2.ensures.bound)

pub overflow_mul-root : goal.overflow_mul-root
overflow_mul-root c =
    let small : c.loop-gap.root + c.loop-gap.gap / 2 ≤ 4294967295 = omega arith in
    omega (arith, mul-le-mul small small)

pub loop-gap-preserved : goal.loop-gap-preserved
loop-gap-preserved c =
    elim c.if-root-half.branch [
      | then-root-half w ↦ rw w.root-is (upper _ _ _ c.loop-gap.invariant w.if-root-half.true)
      | else-root-half w ↦ rw w.root-is (lower _ _ _ c.loop-gap.invariant w.if-root-half.false)
    ]

-- d where the loop ends
last : (n r g : ℕ) → Between (n / 9216) r g → g ≤ 1 → (r + 1) / 2 ≡ spread n
last n r g b h = let one : g ≡ 1 = omega arith in spread_root n r _ b.1 (rw one at b.2) refl

pub returns-then-k-eq0 : goal.returns-then-k-eq0
unfolding auto_kernel_size
returns-then-k-eq0 c =
    rw (← c.from.ensures, ← c.from-2.ensures, ← last _ _ _ c.loop-gap.invariant (omega (arith, c.loop-gap-test.false)), eq-eqb _ _ c.if-k-eq0.true)

pub returns-else-k-eq0 : goal.returns-else-k-eq0
unfolding auto_kernel_size
returns-else-k-eq0 c =
    rw (← c.from.ensures, ← c.from-2.ensures, ← last _ _ _ c.loop-gap.invariant (omega (arith, c.loop-gap-test.false)), ne_eqb _ _ c.if-k-eq0.false)
