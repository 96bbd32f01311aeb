-- `cut_list::remove` meets its contract.
use Rattle.std.proofs.Common.{rules, ◌≡◌, false, take, ◌<◌}
use Rattle.cut_list.specs.Record.{held, is_bad}
use Rattle.cut_list.proofs.Walks.{found-at, absent}
use Rattle.cut_list.proofs.Brought.{sound, remove_absent, remove-done}
use Rattle.cut_list.proofs.remove.Goals as goal

pub returns-in_default : goal.returns-in_default
returns-in_default c =
    let good : is_bad (held c.args.list c.args.memory.now) ≡ false = search rules in
    let are : c.in_ok-stamps.stamps.now ≡ take c.args.list.count c.args.memory.now = search rules in
    let none = absent c.args.list.min_duration c.args.ts.micros _ (rw are (sound _ good).ordered) _ c.in_default.ensures.bound c.in_default.ensures.position in
    rw (c.refused.ensures.0, c.refused.ensures.1) (remove_absent _ _ _ good (rw are at none))

pub returns : goal.returns
returns c =
    let good : is_bad (held c.args.list c.args.memory.now) ≡ false = search rules in
    let are : c.in_ok-stamps.stamps.now ≡ take c.args.list.count c.args.memory.now = search rules in
    let found = rw are at (found-at c.args.list.min_duration c.args.ts.micros _ (rw are (sound _ good).ordered) _ c.in-Ok.ensures.bound c.in-Ok.ensures.ok) in
    let within : c.in-Ok.place < c.args.list.count = search rules in
    rw c.copy_within.ensures.after (remove-done _ _ _ good _ found.0 found.1 within)
