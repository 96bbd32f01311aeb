-- The texts of a line, and how long they are.
use Rattle.std.proofs.Common.{None, Option, Some}
use mathlib.Core.Path.{◌≡◌}
use mathlib.Core.List.{[], ◌∷◌, ◌++◌, append_assoc}
use Prim.Native.Nat.{ℕ, ◌≤◌}
use native.Mathlib.Omega.{arith}
use lib.ListN.{length, length-append}
use Rattle.decimal.specs.Writing.{decimal}
use Rattle.decimal.proofs.Lengths.{decimal_length, stamp-length}
use Rattle.session.specs.Output.{cut_text, line_text}
use Rattle.timestamp.specs.declared.Timestamp.{Timestamp}
use Rattle.content.specs.State.{Answer}

pub field_length : (n : ℕ) → length (decimal n ++ (44 ∷ [])) ≤ 21
field_length n = omega (arith, length-append (decimal n) (44 ∷ []), decimal_length n)

pub cut_length : (cut : Option Timestamp) → length (cut_text cut) ≤ 21
cut_length None = omega arith
cut_length (Some t) = stamp-length t.micros

-- the four texts of a line
pub line-parts : (n : ℕ) (a : Answer) → ((decimal n ++ (44 ∷ [])) ++ (decimal a.number ++ (44 ∷ []))) ++ (cut_text a.cut) ++ (10 ∷ []) ≡ line_text n a
unfolding line_text
line-parts n a = simp append_assoc

pub line-length : (n : ℕ) (a : Answer) → length (line_text n a) ≤ 64
line-length n a =
    let f = decimal n ++ (44 ∷ []) in
    let g = decimal a.number ++ (44 ∷ []) in
    let c = cut_text a.cut in
    rw (← line-parts n a, length-append ((f ++ g) ++ c) (10 ∷ []), length-append (f ++ g) c, length-append f g)
    (omega (arith, field_length n, field_length a.number, cut_length a.cut))
