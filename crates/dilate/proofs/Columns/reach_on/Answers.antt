use Rattle.std.proofs.Common.{◌≡◌, ℕ, ◌<◌, ◌+◌, min, get_or, arith}
use Rattle.dilate.proofs.Gathered.{reached, reached-none, taken-in, not-taken, reached-more, reached-all}
use Rattle.dilate.proofs.Columns.reach_on.Goals.{then-last-self, else-last-self}
use Rattle.dilate.proofs.Columns.reach_on.Goals as goal

pub loop-v-init : goal.loop-v-init
loop-v-init c = reached-none (c.fill.ensures.after (λ y e. e)) c.requires.buffer_len

pub loop-v-preserved : goal.loop-v-preserved
loop-v-preserved c =
    let s = c.args.self in
    let I = c.loop-v.invariant in
    let taken : (x : ℕ) → x < s.w → get_or c.if-last-self.buffer x 0 ≡ reached s c.args.start c.args.plane.now x c.loop-v.v =
    λ x h.
    elim c.if-last-self.branch [
      | then-last-self w ↦ rw w.buffer-is (taken-in w.row-at.result _ I (omega arith) w.if-last-self.true w.row-at.ensures.start (omega arith) (omega arith) w.raise.ensures x h)
      | else-last-self w ↦ rw w.buffer-is (not-taken I w.if-last-self.false x h)
    ] in
    reached-more c.row-at-in-loop-v.result _ _ I taken (omega arith) c.row-at-in-loop-v.ensures.start (omega arith) c.raise-in-loop-v.auto.row c.raise-in-loop-v.ensures

pub returns : goal.returns
returns c = let e : c.min-v-end.result ≡ min c.args.self.h (c.args.start + c.args.self.n) = c.min-v-end.ensures in rw (← e) (reached-all c.loop-v.invariant (omega arith))
