-- compare/README.md, "Replays": the digest, Adler-32.
use Rattle.std.specs.Prelude.{List, [], ◌∷◌, ℕ, zero, suc, ◌+◌, ◌-◌, ◌*◌, ◌/◌, ◌%◌, ℤ, pos, negsuc}
use Rattle.replay.specs.declared.Digest.{Digest}

-- the digest of no bytes
abbrev pub empty : Digest
empty = record { a = 1; b = 0 }

-- one byte more
unfoldable pub step_of : Digest → ℕ → Digest
step_of d byte = record { a = (d.a + byte) % 65521; b = (d.b + (d.a + byte) % 65521) % 65521 }

-- the bytes of a list, in order
unfoldable pub fed : Digest → List ℕ → Digest
fed d [] = d
fed d (byte ∷ s) = fed (step_of d byte) s

-- the k lowest bytes of a number, least first
unfoldable pub least_first : ℕ → ℕ → List ℕ
least_first zero n = []
least_first (suc k) n = n % 256 ∷ least_first k (n / 256)

-- the 32 bits of a signed number, as a natural one
abbrev pub bits_of : ℤ → ℕ
bits_of (pos n) = n
bits_of (negsuc n) = 4294967295 - n

-- signed numbers of 32 bits, in order
unfoldable pub fed_signed : Digest → List ℤ → Digest
fed_signed d [] = d
fed_signed d (z ∷ s) = fed_signed (fed d (least_first 4 (bits_of z))) s

-- the digest as one number
abbrev pub value_of : Digest → ℕ
value_of d = d.b * 65536 + d.a
