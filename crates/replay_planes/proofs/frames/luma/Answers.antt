use Rattle.std.proofs.Common.{ℕ, rules}
use Rattle.frame.specs.Checks.{luma_refusal}
use Rattle.replay_planes.specs.Stages.{luma_around}
use Rattle.replay_planes.proofs.frames.luma.Goals as goal

pub returns : goal.returns
unfolding luma_around
returns c =
    let a = c.args in
    let h : ℕ → ℕ = λ n. luma_refusal n a.rows.case.w a.rows.case.h a.rows.stride in
    rw (← c.bytes.ensures.value) (c.around.ensures h (λ n r b called. search (rules, called)))
