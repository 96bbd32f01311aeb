-- `canny_hysteresis::Listed::sweep` meets its contract. The invariant: the places before this one are visited. Assumes nothing.
use Rattle.std.proofs.Common.{◌≡◌, map, take, fold, nat_abs}
use Rattle.canny_hysteresis.specs.Ways.{in_order, visit_at}
use Rattle.canny_hysteresis.proofs.Listed.sweep.Given as goal

abbrev pub invariant-loop-k : goal.invariant-loop-k
invariant-loop-k l =
    l.s ≡ fold (visit_at l.way l.self.w) l.initial.s (take l.k (in_order l.way (map nat_abs l.self.places.now)))
