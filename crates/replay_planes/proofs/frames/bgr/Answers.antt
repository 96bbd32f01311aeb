use Rattle.std.proofs.Common.{ℕ, rules}
use Rattle.frame.specs.Checks.{bgr_refusal}
use Rattle.replay_planes.specs.Stages.{bgr_around}
use Rattle.replay_planes.proofs.frames.bgr.Goals as goal

pub returns : goal.returns
unfolding bgr_around
returns c =
    let a = c.args in
    let h : ℕ → ℕ = λ n. bgr_refusal n a.rows.case.w a.rows.case.h a.rows.stride in
    rw (← c.bytes.ensures.value) (c.around.ensures h (λ n r b called. search (rules, called)))
