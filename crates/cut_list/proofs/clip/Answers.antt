-- `cut_list::clip` meets its contract.
use Rattle.std.proofs.Common.{rules, ◌≡◌, false}
use Rattle.cut_list.specs.Record.{held, is_bad, list_number}
use Rattle.cut_list.specs.Find.{clip_in}
use Rattle.cut_list.proofs.Brought.{end-is}
use Rattle.cut_list.proofs.clip.Goals as goal

pub returns : goal.returns
unfolding clip_in list_number
returns c =
    let good : is_bad (held c.args.list c.args.memory.now) ≡ false = search rules in
    let found = c.partition_point.ensures in
    let end = end-is _ good c.args.ts.micros _ found.bound found.partitioned (search rules) (λ a r f k. search rules) in
    rw (good, end)
