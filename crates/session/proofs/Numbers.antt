-- Line numbers do not run out: of an input of at most 18446744073709551615 bytes, more than any machine holds, each line is written with
-- its own number, from 0 on.
use mathlib.Core.Path.{◌≡◌, refl, ap, ◌∙◌}
use mathlib.Core.Bool.{Bool, true, false, cond}
use mathlib.Core.List.{List, [], ◌∷◌, ◌++◌}
use Prim.Native.Nat.{ℕ, suc, ◌+◌, ◌≤◌, ◌<◌}
use native.Mathlib.Omega.{arith}
use lib.Dec.{eqb}
use lib.ListN.{length}
use borrow.Author.Tests.{lt-ltb}
use Rattle.decimal.specs.Parts.{parted, with_first}
use Rattle.session.specs.Output.{Place, start, line_call, after, line_text, ended, lines, answers, header, output}
use Rattle.session.specs.Numbered.{answers_from}
use Rattle.session.proofs.Theorem.{Some, some-parts, has_part}

-- a byte before the first part gives at most one line more, and only where that part was the last and empty
first_byte : (b : ℕ) (parts : List (List ℕ)) (n : ℕ) → length (ended parts) ≤ n → length (ended (with_first b parts)) ≤ suc n
unfolding ended
first_byte b [] n h = omega arith
first_byte b (part ∷ []) n h = omega arith
first_byte b (part ∷ next ∷ parts) n h = omega (arith, h)

-- a line feed before the parts ends one line more
line-feed : (parts : List (List ℕ)) → Some parts → (n : ℕ) → length (ended parts) ≤ n → length (ended ([] ∷ parts)) ≤ suc n
unfolding ended
line-feed parts (some-parts part more) n h = omega (arith, h)

by_byte : (b : ℕ) (parts : List (List ℕ)) (t : Bool) → Some parts → (n : ℕ) → length (ended parts) ≤ n → length (ended (cond t ([] ∷ parts) (with_first b parts))) ≤ suc n
by_byte b parts true some n h = line-feed parts some n h
by_byte b parts false some n h = first_byte b parts n h

-- an input has at most as many lines as bytes
pub lines-count : (input : List ℕ) → length (lines input) ≤ length input
unfolding ended parted
lines-count [] = omega arith
lines-count (b ∷ bs) = by_byte b (parted 10 bs) (eqb b 10) (has_part bs) (length bs) (lines-count bs)

-- the next number, where it is not the last one
next_of : (p : Place) (line : List ℕ) (n : ℕ) → p.number ≡ n → n < 18446744073709551615 → (after p line).number ≡ suc n
unfolding after
next_of p line n e h = rw (e, lt-ltb n 18446744073709551615 h)

from : (lines : List (List ℕ)) (n : ℕ) (p : Place) → p.number ≡ n → n + length lines ≤ 18446744073709551615 → answers p lines ≡ answers_from n p lines
unfolding answers answers_from
from [] n p e h = refl
from (line ∷ lines) n p e h =
    ap (λ (k : ℕ). line_text k (line_call p line).answer ++ answers (after p line) lines) e
    ∙ ap (λ (t : List ℕ). line_text n (line_call p line).answer ++ t) (from lines (suc n) (after p line) (next_of p line n e (omega (arith, h))) (omega (arith, h)))

-- The output is the answers numbered from 0.
pub numbers-last : (input : List ℕ) → length input ≤ 18446744073709551615 → output input ≡ header ++ answers_from 0 start (lines input)
unfolding output
numbers-last input h = ap (λ (t : List ℕ). header ++ t) (from (lines input) 0 start refl (let count = lines-count input in omega (arith, h, count)))
