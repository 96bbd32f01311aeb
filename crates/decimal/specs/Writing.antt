-- Numbers and stamps as text of the output (RULES 11.6): decimal digits, no leading zero, a minus before a negative stamp.
use Rattle.std.specs.Prelude.{cond, List, [], ◌∷◌, ◌++◌, ℕ, zero, suc, ◌+◌, ◌/◌, ◌%◌, ltb, ℤ, pos, nat_abs}
use Rattle.std.specs.Int.Signed.{le_z}

-- the digits of n, the most significant first: the last k where there are more
unfoldable pub digits : ℕ → ℕ → List ℕ
digits zero n = []
digits (suc k) n = cond (ltb n 10) ((48 + n) ∷ []) (digits k (n / 10) ++ ((48 + n % 10) ∷ []))

-- n in decimal (RULES 11.6): a number of 64 bits has 20 digits at most
abbrev pub decimal : ℕ → List ℕ
decimal n = digits 20 n

-- a stamp in decimal, after a minus where it is below 0 (RULES 11.6)
unfoldable pub stamp_text : ℤ → List ℕ
stamp_text z = cond (le_z (pos 0) z) (decimal (nat_abs z)) (45 ∷ decimal (nat_abs z))
