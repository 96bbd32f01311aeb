-- What the Rust's `Timestamp` computes (RULES 1.2 to 1.4), and the distance of two stamps (RULES 1.6). A stamp is a whole number of microseconds,
-- a duration a natural number of them.
use Rattle.std.specs.Prelude.{ℕ, cond, ℤ, pos, negsuc, nat_abs, ◌-ℤ◌, Option, Some, None}
use Rattle.std.specs.Int.Signed.{le_z}
use Rattle.timestamp.specs.declared.Timestamp.{Timestamp}

-- -2^63, the least stamp
abbrev pub least : ℤ
least = negsuc 9223372036854775807

-- the distance of two whole numbers: their difference without its sign. Of two stamps it is at most 2^64 - 1 (RULES 1.6).
unfoldable pub distance : ℤ → ℤ → ℕ
distance a b = nat_abs (a -ℤ b)

-- `duration_since`: none when ts is before the "earlier" one, otherwise the difference
unfoldable pub duration_since : Timestamp → Timestamp → Option ℕ
duration_since ts earlier = cond (le_z earlier.micros ts.micros) (Some (distance ts.micros earlier.micros)) None

-- `saturating_sub_duration`: the stamp less the duration; it stops at -2^63
unfoldable pub saturating_sub : Timestamp → ℕ → Timestamp
saturating_sub ts d = record { micros = cond (le_z least (ts.micros -ℤ pos d)) (ts.micros -ℤ pos d) least }
