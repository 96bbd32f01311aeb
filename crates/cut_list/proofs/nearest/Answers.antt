-- `cut_list::nearest` meets its contract.
use Rattle.std.proofs.Common.{rules, ◌≡◌, false, take}
use Rattle.std.proofs.lemmas.Iterator.{YieldsList-from_slice, YieldsList-from_map_by}
use Rattle.std.proofs.lemmas.Iterator.Consumers.{YieldsList-at}
use Rattle.std.proofs.lemmas.List.{map-id}
use Rattle.cut_list.specs.Record.{held, is_bad, list_number}
use Rattle.cut_list.specs.Find.{nearest_in}
use Rattle.cut_list.proofs.Walks.{nearest-is}
use Rattle.cut_list.proofs.nearest.Goals as goal

pub returns : goal.returns
unfolding nearest_in list_number
returns c =
    let good : is_bad (held c.args.list c.args.memory.now) ≡ false = search rules in
    let are : c.in_ok-stamps.stamps.now ≡ take c.args.list.count c.args.memory.now = search rules in
    let found = nearest-is _ c.args.ts.micros (λ x k q e. search rules) _ _ c.min_by_key-nearest.ensures.ran
    (YieldsList-from_map_by _ (λ y. y.micros) (λ x. x) (YieldsList-at c.map.ensures.source (YieldsList-from_slice c.in_ok-stamps.stamps.now (cc))) c.map.ensures.closure (λ x r q k. search rules)) in
    rw (good, found, map-id, are)
