-- `canny_hysteresis::whiten` meets its contract. Assumes nothing.
use Rattle.laws.proofs.InPlace.{Mapped}
use Rattle.canny_hysteresis.specs.Sweeps.{whitened}
use Rattle.canny_hysteresis.proofs.whiten.Given as goal

abbrev pub invariant-loop-v : goal.invariant-loop-v
invariant-loop-v l = Mapped 0 (λ k v. whitened v) l.initial.s l.v-index l.s
