-- What the bytes of a list's records say of settings, sizes and stamps (compare/README.md, "Lists of content calls"): a part of the comparison
-- with the Rust (RULES 14.3). r[k] is byte k of the record, which for settings is record 0 and for a call its own.
use Rattle.std.specs.Prelude.{Bool, true, false, cond, List, [], ◌∷◌, ℕ, ◌+◌, ◌*◌, ◌-◌, ◌/◌, ◌%◌, eqb, leb, Float, pos, nat_abs, ◌-ℤ◌, length, get_or, None, Option, Some}
use Rattle.std.specs.Float.{nan, inf, binary64}
use Rattle.std.specs.Float.Ieee.{of_bits}
use Rattle.std.specs.Int.Signed.{le_z}
use Rattle.laws.specs.Floats.{float}
use Rattle.timestamp.specs.Stamps.{least, saturating_sub}
use Rattle.timestamp.specs.declared.Timestamp.{Timestamp}
use Rattle.score.specs.Scores.{components, default_weights, luma_only_weights}
use Rattle.score.specs.declared.Components.{Components}
use Rattle.stream.specs.declared.Stream.{Stream}
use Rattle.compare_lists.specs.declared.input.Size.{Size}

-- byte k of record i, 16 bytes each; 0 where there is none
unfoldable pub byte_of : List ℕ → (i k : ℕ) → ℕ
byte_of s i k = cond (leb (length s / 16) i) 0 (cond (leb 16 k) 0 (get_or s (i * 16 + k) 0))

-- a threshold by its kind: NaN for 0, the infinities for 1 and 2, -0.0 for 3, 27 for 4, otherwise the other
unfoldable pub threshold_of : ℕ → Float → Float
threshold_of kind other =
    cond
    (eqb kind 0)
    nan
    (cond
    (eqb kind 1)
    (inf false)
    (cond
    (eqb kind 2)
    (inf true)
    (cond (eqb kind 3) (of_bits binary64 9223372036854775808) (cond (eqb kind 4) (float 27) other))))

-- the weights of the list, as their bits: 0, -0.0, 1, -1, 0.5, 0.1, 0.2, 0.3, 0.7, 2, -3.25, 2^20, -2^20, 1e-300
unfoldable pub weight_list : List Float
weight_list =
    of_bits binary64 0
    ∷ of_bits binary64 9223372036854775808
    ∷ of_bits binary64 4607182418800017408
    ∷ of_bits binary64 13830554455654793216
    ∷ of_bits binary64 4602678819172646912
    ∷ of_bits binary64 4591870180066957722
    ∷ of_bits binary64 4596373779694328218
    ∷ of_bits binary64 4599075939470750515
    ∷ of_bits binary64 4604480259023595110
    ∷ of_bits binary64 4611686018427387904
    ∷ of_bits binary64 13837872805049270272
    ∷ of_bits binary64 4697254411347427328
    ∷ of_bits binary64 13920626448202203136
    ∷ of_bits binary64 118622047889322841
    ∷ []

-- the weight of a byte b: NaN for 252, the infinities for 253 and 254, 2^20 + 1 for 255, otherwise the one at place b % 14 of the list
unfoldable pub weight_of : ℕ → Float
weight_of b =
    cond
    (eqb b 252)
    nan
    (cond (eqb b 253) (inf false) (cond (eqb b 254) (inf true) (cond (eqb b 255) (float 1048577) (get_or weight_list (b % 14) nan))))

-- the weights by r[2] % 8, where e is the weight of r[6]: the default for 0, luma alone for 1, (1, 1, 1, e) for 2, (0, -0.0, 0, e) for 3,
-- otherwise the weights of r[3], r[4] and r[5], and e
unfoldable pub weights_of : List ℕ → Components
weights_of s =
    cond
    (eqb (byte_of s 0 2 % 8) 0)
    default_weights
    (cond
    (eqb (byte_of s 0 2 % 8) 1)
    luma_only_weights
    (cond
    (eqb (byte_of s 0 2 % 8) 2)
    (components (float 1) (float 1) (float 1) (weight_of (byte_of s 0 6)))
    (cond
    (eqb (byte_of s 0 2 % 8) 3)
    (components (float 0) (of_bits binary64 9223372036854775808) (float 0) (weight_of (byte_of s 0 6)))
    (components (weight_of (byte_of s 0 3)) (weight_of (byte_of s 0 4)) (weight_of (byte_of s 0 5)) (weight_of (byte_of s 0 6))))))

-- k by its kind, r[8] % 8, and the byte r[9]: not set for 0 to 3, 2^32 - 1 for 4, the byte for 5, otherwise 2 × (byte % 32) + 1
unfoldable pub kernel_by : (kind b : ℕ) → Option ℕ
kernel_by kind b = cond (leb kind 3) None (cond (eqb kind 4) (Some 4294967295) (cond (eqb kind 5) (Some b) (Some (2 * (b % 32) + 1))))

abbrev pub kernel_of : List ℕ → Option ℕ
kernel_of s = kernel_by (byte_of s 0 8 % 8) (byte_of s 0 9)

-- the minimum by r[10] % 16: 0 for 0, 1 for 1, 1,000,000 for 2, 2^64 - 1 for 3, otherwise r[11] × 1000
unfoldable pub minimum_of : List ℕ → ℕ
minimum_of s =
    cond
    (eqb (byte_of s 0 10 % 16) 0)
    0
    (cond
    (eqb (byte_of s 0 10 % 16) 1)
    1
    (cond
    (eqb (byte_of s 0 10 % 16) 2)
    1000000
    (cond (eqb (byte_of s 0 10 % 16) 3) 18446744073709551615 (byte_of s 0 11 * 1000))))

-- `initial_cut` is on where r[7] / 2 is even
abbrev pub initial_cut_of : List ℕ → Bool
initial_cut_of s = eqb (byte_of s 0 7 / 2 % 2) 0

-- the side of a byte b: b % 13 for b below 192, otherwise b % 41
unfoldable pub side_of : ℕ → ℕ
side_of b = cond (leb 192 b) (b % 41) (b % 13)

abbrev pub first_size : List ℕ → Size
first_size s = record { width = side_of (byte_of s 0 12); height = side_of (byte_of s 0 13) }

-- the size of a call: where r[3] % 16 is 0, the sides of r[4] and r[5], otherwise that of the call before
unfoldable pub next_size : Size → List ℕ → ℕ → Size
next_size size s i = cond (eqb (byte_of s i 3 % 16) 0) (record { width = side_of (byte_of s i 4); height = side_of (byte_of s i 5) }) size

-- the clock by its kind, r[1] % 32: 2^64 - 1 for 0, 0 for 1, 2^63 - 1 for 2; for 3 to 6 it grows by the step, otherwise it falls by it; where
-- that leaves 64 bits it stays
unfoldable pub turned_to : (clock kind step : ℕ) → ℕ
turned_to clock kind step =
    cond
    (eqb kind 0)
    18446744073709551615
    (cond
    (eqb kind 1)
    0
    (cond
    (eqb kind 2)
    9223372036854775807
    (cond
    (leb kind 6)
    (cond (leb clock (18446744073709551615 - step)) (clock + step) clock)
    (cond (leb step clock) (clock - step) clock))))

abbrev pub next_clock : (clock : ℕ) → List ℕ → ℕ → ℕ
next_clock clock s i = turned_to clock (byte_of s i 1 % 32) (byte_of s i 2 * 1000)

-- the stamp is 2^63 - 1 less the clock
abbrev pub stamp_of : ℕ → Timestamp
stamp_of clock = saturating_sub (record { micros = pos 9223372036854775807 }) clock

-- a bad record is handed in where r[13] % 32 is 1
abbrev pub is_foreign : List ℕ → ℕ → Bool
is_foreign s i = eqb (byte_of s i 13 % 32) 1

-- a stream with a height of 4,097, for a bad record
abbrev pub too_high : Stream → Stream
too_high s = record { has_previous = s.has_previous; last_score = s.last_score; last_components = s.last_components; width = s.width; height = 4097 }

-- the state that call i is handed: where r[13] % 32 is 1, a bad record by r[14], which `spoiled` gives
unfoldable pub given_to : {D : Type 0} → (D → ℕ → D) → D → List ℕ → ℕ → D
given_to spoiled d s i = cond (is_foreign s i) (spoiled d (byte_of s i 14)) d

-- the state after call i, which returned `next`: the list goes on from the state before it where a bad record was handed in
unfoldable pub kept_after : {D : Type 0} → (d next : D) → List ℕ → ℕ → D
kept_after d next s i = cond (is_foreign s i) d next

-- a stamp as it is written down: plus 2^63, which no stamp is below
unfoldable pub raised_of : Timestamp → ℕ
raised_of t = cond (le_z least t.micros) (nat_abs (t.micros -ℤ least)) 0
