-- `canny_hysteresis::hysteresis` meets its contract. The invariant: the rounds so far are done. Assumes nothing.
use Rattle.laws.proofs.Stepped.{Stepped}
use Rattle.canny_hysteresis.specs.Sweeps.{round}
use Rattle.canny_hysteresis.proofs.hysteresis.Given as goal

abbrev pub invariant-rounds : goal.invariant-rounds
invariant-rounds l = Stepped (λ i. round l.fn.w l.fn.h) l.fn.classes l.counter l.classes
