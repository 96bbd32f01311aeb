-- A push keeps the count at most 2 × window + 1. Assumes nothing.
use mathlib.Core.Bool.{Bool, true, false, cond}
use Prim.Native.Nat.{ℕ, ◌+◌, ◌≤◌}
use native.Mathlib.Omega.{arith}
use lib.Ieee.{Float}
use Rattle.timestamp.specs.declared.Timestamp.{Timestamp}
use Rattle.window.specs.declared.WindowOptions.{WindowOptions}
use Rattle.window.specs.declared.Window.{Window}
use Rattle.window.specs.declared.WindowStep.{WindowStep}
use Rattle.window.specs.Window.{others, unchanged, can_hold, is_full, pushed, judged, checked, push_and_check}

either : (b : Bool) (s t : WindowStep) (m : ℕ) → s.window.count ≤ m → t.window.count ≤ m → (cond b s t).window.count ≤ m
either true s t m p q = p
either false s t m p q = q

checked-keeps : (o : WindowOptions) (s : Window) (m : ℕ) → s.count ≤ m → (checked o s).window.count ≤ m
unfolding checked judged
checked-keeps o s m h = either (is_full (others o) s) (judged o s) (unchanged s) m h h

pushed-keeps : (n : ℕ) (s : Window) (ts : Timestamp) (x : Float) → (pushed n s ts x).count ≤ n + 1
unfolding pushed
pushed-keeps n s ts x = omega arith

pub push-keeps : (o : WindowOptions) (s : Window) (ts : Timestamp) (x : Float) → s.count ≤ others o + 1 → (push_and_check o s ts x).window.count ≤ others o + 1
unfolding push_and_check
push-keeps o s ts x h =
    either (can_hold o s.count) (checked o (pushed (others o) s ts x)) (unchanged s) (others o + 1)
    (checked-keeps o (pushed (others o) s ts x) (others o + 1) (pushed-keeps (others o) s ts x)) h
