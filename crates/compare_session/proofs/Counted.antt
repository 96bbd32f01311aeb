-- No output is empty, so the count says whether there was room.
use mathlib.Core.List.{List}
use Prim.Native.Nat.{ℕ, ◌<◌}
use native.Mathlib.Omega.{arith}
use borrow.Author.Tests.{ne_eqb}
use lib.Dec.{eqb}
use lib.ListN.{length, length-append}
use mathlib.Core.Bool.{cond}
use Rattle.std.proofs.Common.{Option, Some, None}
use Rattle.session.specs.Output.{header, start, lines, answers, output}
use Rattle.session.specs.Promises.{IsOutput}

some-output : (input : List ℕ) → 0 < length (output input)
unfolding output
some-output input = omega (arith, length-append header (answers start (lines input)))

-- what the count stands for
abbrev pub told : ℕ → Option ℕ
told n = cond (eqb n 0) None (Some n)

pub counted : (input out out' : List ℕ) (n : ℕ) → IsOutput input out out' (Some n) → IsOutput input out out' (told n)
counted input out out' n o = rw (ne_eqb n 0 (λ z. omega (arith, z, o.1, some-output input))) o
