-- The list that a start describes (compare/README.md, "Lists of operations"): r is the record of 32 bytes.
use Rattle.std.specs.Prelude.{ℕ, ◌+◌, ◌-◌, ◌*◌, ◌%◌, ◌^◌, cond, List, [], ◌∷◌, ◌==◌, nat_le, slice_index}
use Rattle.replay_list.specs.Numbers.{wide_of}
use Rattle.replay_list.specs.Fill.{back_of}

-- the minima, by place
abbrev pub minima : List ℕ
minima =
    0 ∷ 1 ∷ 2 ∷ 3 ∷ 10 ∷ 100 ∷ 1000 ∷ 65536 ∷ 1000000 ∷ 4294967296 ∷ 18014398509481984 ∷ 4611686018427387904 ∷ 9223372036854775807 ∷ 9223372036854775808 ∷ 18446744073709551614 ∷ 18446744073709551615 ∷ []

-- the minimum, by r[0] % 16
unfoldable pub minimum_of : List ℕ → ℕ
minimum_of r = slice_index minima (slice_index r 0 % 16)

-- the count by its kind and a byte: 0 to 3 0, 4 1, 5 to 7 2, 8 3, 9 the byte, 10 the byte and 256, 11 505 to 512, 12 511, otherwise 512
unfoldable pub count_by : (kind b : ℕ) → ℕ
count_by kind b =
    cond (nat_le kind 3) 0
    (cond (kind == 4) 1
    (cond (nat_le kind 7) 2
    (cond (kind == 8) 3
    (cond (kind == 9) b
    (cond (kind == 10) (256 + b)
    (cond (kind == 11) (505 + b % 8)
    (cond (kind == 12) 511 512)))))))

-- the count, by r[12] % 16 and r[13]
unfoldable pub count_of : List ℕ → ℕ
count_of r = count_by (slice_index r 12 % 16) (slice_index r 13)

-- the step by its kind, a byte and the minimum: 0 to 8 the minimum, or 1 where it is 0; 9 and 10 one more; 11 one less; both go round 2^64;
-- 12 0; 13 2^64 - 1 less the byte; 14 2^54; 15 256 times the byte and 1
unfoldable pub step_by : (kind b minimum : ℕ) → ℕ
step_by kind b m =
    cond (nat_le kind 8) (cond (m == 0) 1 m)
    (cond (nat_le kind 10) ((m + 1) % 2 ^ 64)
    (cond (kind == 11) (cond (m == 0) 18446744073709551615 (m - 1))
    (cond (kind == 12) 0
    (cond (kind == 13) (18446744073709551615 - b)
    (cond (kind == 14) 18014398509481984 (256 * b + 1))))))

-- the step, by r[1] % 16 and r[2]
unfoldable pub step_of : List ℕ → (minimum : ℕ) → ℕ
step_of r m = step_by (slice_index r 1 % 16) (slice_index r 2) m

-- the number of the first place, by r[3] % 8: 0 and 1 0; 2 to 4 such that the last stamp of the list is 2^64 - 1; 5 2^63; otherwise r[4] to r[11]
unfoldable pub first_of : List ℕ → (step count : ℕ) → ℕ
first_of r step n =
    cond (nat_le (slice_index r 3 % 8) 1) 0 (cond (nat_le (slice_index r 3 % 8) 4) (back_of step n) (cond (slice_index r 3 % 8 == 5) 9223372036854775808 (wide_of r 4)))
