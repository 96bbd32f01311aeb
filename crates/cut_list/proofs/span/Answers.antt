-- `cut_list::span` meets its contract.
use Rattle.std.proofs.Common.{rules, ◌≡◌, false}
use Rattle.cut_list.specs.Record.{held, is_bad}
use Rattle.cut_list.proofs.Brought.{place-is, end-is, span-done, span-empty}
use Rattle.cut_list.proofs.span.Goals as goal

pub returns-then-first-end : goal.returns-then-first-end
returns-then-first-end c =
    let good : is_bad (held c.args.list c.args.memory.now) ≡ false = search rules in
    let first = place-is _ good c.args.a.micros _ c.partition_point-first.ensures.bound c.partition_point-first.ensures.partitioned (search rules) (λ a r f k. search rules) in
    let end = end-is _ good c.args.b.micros _ c.partition_point-end.ensures.bound c.partition_point-end.ensures.partitioned (search rules) (λ a r f k. search rules) in
    span-done _ good _ _ _ _ first end c.if-first-end.true

pub returns-else-first-end : goal.returns-else-first-end
returns-else-first-end c =
    let good : is_bad (held c.args.list c.args.memory.now) ≡ false = search rules in
    let first = place-is _ good c.args.a.micros _ c.partition_point-first.ensures.bound c.partition_point-first.ensures.partitioned (search rules) (λ a r f k. search rules) in
    let end = end-is _ good c.args.b.micros _ c.partition_point-end.ensures.bound c.partition_point-end.ensures.partitioned (search rules) (λ a r f k. search rules) in
    span-empty _ good _ _ _ _ first end c.if-first-end.false
