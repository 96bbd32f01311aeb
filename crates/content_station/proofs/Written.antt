-- A text that is written to memory is no longer than the memory.
use mathlib.Core.Path.{◌≡◌, ap}
use mathlib.Core.List.{List, ◌++◌}
use Prim.Native.Nat.{ℕ, ◌≤◌}
use native.Mathlib.Omega.{arith}
use lib.ListN.{length, take, drop, length-append}
use Rattle.decimal.specs.Placed.{placed}

pub no-longer : (out text out' : List ℕ) → out' ≡ placed out 0 text → length text ≤ length out'
unfolding placed
no-longer out text out' e =
    let whole = ap length e in
    let parts = length-append text (drop (length text) (drop 0 out)) in
    let front = length-append (take 0 out) (text ++ drop (length text) (drop 0 out)) in
    omega (arith, whole, parts, front)
