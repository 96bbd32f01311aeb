-- `frame_call::process` meets its contract: refused by the first number, or accepted with the frame's planes in the store.
use mathlib.Core.Path.{refl, sym}
use native.Mathlib.Omega.{arith}
use Prim.Native.Nat.{◌*◌}
use Rattle.std.proofs.Common.{rules}
use Rattle.stream.specs.Stream.{memory_refusal}
use Rattle.scoring.proofs.Stored.{sums-are, store_is, third_is}
use Rattle.frame_call.specs.Call.{call_refusal, accepted}
use Rattle.frame_call.proofs.Planes.{replaced}
use Rattle.frame_call.proofs.Returned.{called-accepted}
use Rattle.frame_call.proofs.process.Goals as goal

pub returns : goal.returns
unfolding call_refusal accepted memory_refusal
returns g c p sized replaces =
    let w = c.args.width in
    let h = c.args.height in
    let store = c.args.store.now in
    let k = c.kernel.result in
    let edges = c.edges_enabled.result in
    let r = replaced (w * h) p store _ _ (search rules)
    (replaces _ _ _ _ _ (record { first = _; second = _; shows = (refl, refl); left = _; met = c.replace-planes.ensures; leaves = (refl, refl) })) in
    let sums = sums-are w h k p store sized.hues sized.saturations sized.lumas edges c.is_scored.result in
    let after = store_is w h k p store sized.hues sized.saturations sized.lumas edges in
    let framed = c.frame_sums-sums.ensures in
    let third = third_is w h k p store sized.hues sized.saturations sized.lumas in
    called-accepted _ _ _ _ _ _ _ _ _ _
    (rw (c.if-bad.false, c.in_ok-frame.was, sym c.in_ok-check_memory.ensures))
    (cc (c.next_stream.ensures, framed.value, r.0, r.1, sums, c.edges_enabled.ensures, c.kernel.ensures, c.is_scored.ensures, c.median_if-median.ensures, third))
    (cc (framed.store_after, r.0, after, c.edges_enabled.ensures, c.kernel.ensures)) (omega arith) (omega arith)
