-- compare/README.md, "Replays": the generator.
use Rattle.std.specs.Prelude.{cond, List, ℕ, zero, suc, ◌+◌, ◌*◌, ◌/◌, ◌%◌, eqb}
use Rattle.laws.specs.Lists.{tabulate}

-- the next number after x
abbrev pub next_of : ℕ → ℕ
next_of x = (x * 1664525 + 1013904223) % 4294967296

-- the byte that x gives
abbrev pub byte_of : ℕ → ℕ
byte_of x = x / 65536 % 256

-- a byte on the levels of a kind
unfoldable pub shade_of : ℕ → ℕ → ℕ
shade_of b kind =
    cond
    (eqb kind 0)
    b
    (cond
    (eqb kind 1)
    (b % 2 * 255)
    (cond
    (eqb kind 2)
    (b % 3 * 127)
    (cond (eqb kind 3) (b % 6 * 51) (cond (eqb kind 4) (96 + b / 4) (131 + b % 2 * 62)))))

-- the number n steps after x
unfoldable pub after : ℕ → ℕ → ℕ
after zero x = x
after (suc n) x = next_of (after n x)

-- a generated run of n bytes of a kind, from x
unfoldable pub shades : ℕ → ℕ → ℕ → List ℕ
shades n x kind = tabulate n (λ i. shade_of (byte_of (after (i + 1) x)) kind)
