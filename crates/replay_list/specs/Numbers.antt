-- Numbers by the bytes of a record, and stamps by numbers of 64 bits (compare/README.md, "Lists of operations").
use Rattle.std.specs.Prelude.{ℕ, ◌+◌, ◌-◌, ◌*◌, ◌/◌, ◌%◌, List, ℤ, pos, ◌-ℤ◌, slice_index}
use Rattle.laws.specs.Steps.{steps}
use Rattle.timestamp.specs.Stamps.{distance, least}

-- n without its least byte, and b as the greatest
abbrev pub pushed_of : (n b : ℕ) → ℕ
pushed_of n b = n / 256 + b * 72057594037927936

-- the eight bytes of a record from `at` on, least first: each is pushed in as the greatest
abbrev pub wide_of : List ℕ → (at : ℕ) → ℕ
wide_of r at = steps 8 (λ i n. pushed_of n (slice_index r (at + i))) 0

-- the stamp of a number: n - 2^63, so that numbers of 64 bits are stamps in their order
unfoldable pub stamp_of : ℕ → ℤ
stamp_of n = pos n -ℤ pos 9223372036854775808

-- a less b, around 2^64
abbrev pub less_of : (a b : ℕ) → ℕ
less_of a b = (a + (18446744073709551616 - b)) % 18446744073709551616

-- the number of a stamp, which `stamp_of` takes to it: how far it is past -2^63
abbrev pub raised_of : ℤ → ℕ
raised_of t = distance t least
