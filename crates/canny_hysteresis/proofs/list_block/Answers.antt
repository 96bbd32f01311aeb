use Rattle.std.proofs.Common.{◌∙◌, sym, arith, refl, rules, ◌≡◌, cond, ◌<◌, ◌+◌, length, eqb, get_or}
use Rattle.std.proofs.lemmas.Int.{ints}
use Rattle.canny_hysteresis.specs.Places.{weak_from}
use Rattle.canny_hysteresis.proofs.Listing.{bit-small, none-weak, weak-more, added-none, added-one, added-more}
use Rattle.canny_hysteresis.proofs.list_block.Goals as goal

pub returns-then-not-contains : goal.returns-then-not-contains
returns-then-not-contains c = added-none _ _ _ (omega arith) (none-weak _ _ (sym c.contains.ensures.value ∙ c.if-not-contains.true))

pub loop-i-init : goal.loop-i-init
unfolding weak_from
loop-i-init c = (added-none _ _ _ (omega arith) refl, omega arith)

pub loop-i-preserved : goal.loop-i-preserved
loop-i-preserved c =
    let h : c.loop-i.count < length c.loop-i.list = omega (arith, c.loop-i.invariant.0.len) in
    let b = eqb (get_or c.args.block.now c.loop-i.i 0) 1 in
    let e : c.from-count.result ≡ cond b 1 0 = search rules in (
      added-more c.loop-i.invariant.0 (added-one b (c.args.first + c.loop-i.i) h (omega (arith, ints)) e)
          (weak-more c.args.first c.args.block.now c.loop-i.i (omega arith)),
      omega (arith, bit-small b),
    )
