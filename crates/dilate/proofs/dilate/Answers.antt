use Rattle.std.proofs.Common.{ℕ, arith}
use Rattle.std.proofs.lemmas.List.{length-take, length-replicate}
use Rattle.dilate.proofs.Frames.{over-square}
use Rattle.dilate.proofs.dilate.Goals as goal

pub returns : goal.returns
returns c =
    over-square _ c.dilate_rows.new.plane c.widen.new.plane c.widen-2.new.plane c.args.w c.args.h c.args.k _ (omega arith) (omega (arith, length-take {A = ℕ}, length-replicate {A = ℕ}))
    c.dilate_rows.ensures (λ x v p q. c.widen.ensures.here x v p q (omega arith) q) (λ x v p q. c.widen-2.ensures.here x v p q (omega arith) q)
