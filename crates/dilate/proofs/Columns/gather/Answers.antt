use Rattle.std.proofs.Common.{◌≡◌, ◌+◌, ◌-◌, min, arith}
use Rattle.dilate.proofs.Gathered.{gathered-none, gathered-more, gathered-all}
use Rattle.dilate.proofs.Columns.gather.Goals as goal

pub loop-v-init : goal.loop-v-init
loop-v-init c = gathered-none (omega arith) (c.fill.ensures.after (λ y e. e)) c.requires.buffer_len

pub loop-v-preserved : goal.loop-v-preserved
loop-v-preserved c =
    gathered-more (c.loop-v.v - 1) c.row-at.result _ _ c.loop-v.invariant (omega arith) (omega arith) (omega arith) (omega arith) c.row-at.ensures.start (omega (arith, c.loop-v.invariant.len))
    c.requires.plane_len (omega arith) c.raise.ensures c.copy_from_slice.ensures.after c.raise.auto.row

pub returns : goal.returns
returns c = let e : c.min-end.result ≡ min c.args.self.h (c.args.start + c.args.self.n) = c.min-end.ensures in rw (← e) (gathered-all c.loop-v.invariant (omega arith))
