-- `cut_list::add` meets its contract.
use Rattle.std.proofs.Common.{rules, ◌≡◌, false, take}
use mathlib.Core.Path.{sym, ◌∙◌}
use mir.Val.{SFits}
use mir.Syntax.{w64}
use mir.ValLaws.{to_z-of_z}
use Rattle.cut_list.specs.Record.{held, is_bad}
use Rattle.cut_list.proofs.Brought.{place-is, add-close, add-full, add_done}
use Rattle.cut_list.proofs.add.Goals as goal

pub returns-then-not-fits : goal.returns-then-not-fits
returns-then-not-fits c =
    let good : is_bad (held c.args.list c.args.memory.now) ≡ false = search rules in
    let are : c.in_ok-stamps.stamps.now ≡ take c.args.list.count c.args.memory.now = search rules in
    let found = c.partition_point-place.ensures in
    let place = place-is _ good c.args.ts.micros _ found.bound found.partitioned are (λ a r f k. search rules) in
    rw (c.refused.ensures.0, c.refused.ensures.1) (add-close _ _ _ good _ place (rw are at (sym c.fits.ensures ∙ c.if-not-fits.true)))

pub returns-then-list-eq-MOST_STAMPS : goal.returns-then-list-eq-MOST_STAMPS
returns-then-list-eq-MOST_STAMPS c =
    let good : is_bad (held c.args.list c.args.memory.now) ≡ false = search rules in
    let are : c.in_ok-stamps.stamps.now ≡ take c.args.list.count c.args.memory.now = search rules in
    let found = c.partition_point-place.ensures in
    let place = place-is _ good c.args.ts.micros _ found.bound found.partitioned are (λ a r f k. search rules) in
    let why = c.refused-then-list-eq-MOST_STAMPS.ensures in
    rw (why.0, why.1) (add-full _ _ _ good _ place (rw are at (sym c.fits.ensures ∙ c.if-not-fits.false)) c.if-list-eq-MOST_STAMPS.true)

pub returns : goal.returns
returns c =
    let good : is_bad (held c.args.list c.args.memory.now) ≡ false = search rules in
    let are : c.in_ok-stamps.stamps.now ≡ take c.args.list.count c.args.memory.now = search rules in
    let found = c.partition_point-place.ensures in
    let place = place-is _ good c.args.ts.micros _ found.bound found.partitioned are (λ a r f k. search rules) in
    let f : SFits w64 c.args.ts.micros = search rules in
    rw (c.copy_within.ensures.after, to_z-of_z w64 _ f)
    (add_done _ _ _ good _ place (rw are at (sym c.fits.ensures ∙ c.if-not-fits.false)) c.if-list-eq-MOST_STAMPS.false)
