-- `scoring::replace_edges` meets its contract: the edge plane is made of the third plane, and takes the place of the fourth.
use native.Mathlib.Omega.{arith}
use Prim.Native.Nat.{◌+◌, ◌-◌, ◌*◌}
use lib.ListN.{length, drop, length-drop}
use lib.Seq.{take_all, length-take-le}
use Rattle.scoring.proofs.Parts.{luma_of, rest_of, packed_already}
use Rattle.scoring.proofs.replace_edges.Goals as goal

-- what is known of the median is known of the third plane's
pub edge_plane-requires-clause-known : goal.edge_plane-requires-clause-known
edge_plane-requires-clause-known c =
    let n = c.args.w * c.args.h in
    let planes = c.split_at_mut-planes.result.0.now in
    let last = take_all (length planes - (n + n)) (drop (n + n) planes) (omega (arith, length-drop (n + n) planes)) in
    rw (last, c.split_at_mut-planes.ensures.front, luma_of n c.args.store.now (omega arith)) c.requires.known

pub returns : goal.returns
returns c =
    let n = c.args.w * c.args.h in
    let planes = c.split_at_mut-planes.result.0.now in
    let luma = luma_of n c.args.store.now (omega arith) in
    let last = take_all (length planes - (n + n)) (drop (n + n) planes) (omega (arith, length-drop (n + n) planes)) in
    let rest = rest_of n c.args.store.now in
    let whole = packed_already c.edge_plane.new.edges c.args.w c.args.h (omega (arith, length-take-le n c.args.scratch.now c.requires.scratch_room)) in
    record { value = cc (luma, last, whole); replaced = cc (luma, last, rest, whole) }
