use Rattle.std.proofs.Common.{arith}
use Rattle.light_plan.specs.declared.Row.{Row}
use Rattle.light_plan.proofs.Sixteen.{part_more}
use Rattle.light_plan.proofs.Plan.of.Goals as goal

pub loop-i-preserved : goal.loop-i-preserved
loop-i-preserved c =
    let d : Row = record { from = 0; to = 0; threshold = 0 } in
    let rows = c.args.rows.now in let i = c.loop-i.i in
    record {
      from = rw c.loop-i.invariant.from (part_more (λ (r : Row). r.from) rows d i (omega arith) (omega arith));
      to = rw c.loop-i.invariant.to (part_more (λ (r : Row). r.to) rows d i (omega arith) (omega arith));
      threshold = rw c.loop-i.invariant.threshold (part_more (λ (r : Row). r.threshold) rows d i (omega arith) (omega arith));
    }
