-- What the bytes of a record of 32 bytes say of an operation (compare/README.md, "Lists of operations").
-- r[k] is byte k of the record.
use Rattle.std.specs.Prelude.{ℕ, ◌+◌, ◌-◌, ◌*◌, ◌/◌, ◌%◌, Bool, cond, ◌&&◌, List, [], ◌∷◌, ℤ, pos, ◌==◌, nat_le, slice_index, slice_index_or}
use Rattle.cut_list.specs.declared.CutList.{CutList}
use Rattle.cut_list.specs.Record.{cut_list}
use Rattle.replay_list.specs.Numbers.{wide_of, less_of, raised_of}
use Rattle.replay_list.specs.declared.input.Kind.{Kind}
use Rattle.replay_list.specs.declared.input.Kind.TheVariants.{Add, Remove, Empty, Nearest, Span, Clip}

-- a place by two bytes: one of the first 16 where b is even, otherwise any of the first 512
unfoldable pub place_of : (a b : ℕ) → ℕ
place_of a b = cond (b % 2 == 0) (a % 16) (2 * a + b / 2 % 2)

-- the kind by k = r[0] % 16 and b = r[1]: 0 to 4 add, 5 to 7 remove, 8 and 9 the nearest, 10 to 12 a span, 13 and 14 a clip, and for 15
-- emptying where b % 4 is 0, otherwise add
unfoldable pub kind_by : (k b : ℕ) → Kind
kind_by k b =
    cond
    (nat_le k 4)
    Add
    (cond (nat_le k 7) Remove (cond (nat_le k 9) Nearest (cond (nat_le k 12) Span (cond (nat_le k 14) Clip (cond (b % 4 == 0) Empty Add)))))

-- the kind of an operation: where the list is being filled, add for r[0] from 32 on
unfoldable pub kind_of : List ℕ → Bool → Kind
kind_of r fills = cond (fills && nat_le 32 (slice_index r 0)) Add (kind_by (slice_index r 0 % 16) (slice_index r 1))

-- how many places are lent: by the fault r[3] % 64, 511 for 2 and r[4] for 3, otherwise by r[2] % 8, 512 for 0 to 3, 513 for 4 and 5 and else
-- 600
unfoldable pub lent_of : List ℕ → ℕ
lent_of r =
    cond
    (slice_index r 3 % 64 == 2)
    511
    (cond (slice_index r 3 % 64 == 3) (slice_index r 4) (cond (nat_le (slice_index r 2 % 8) 3) 512 (cond (nat_le (slice_index r 2 % 8) 5) 513 600)))

-- the record that an operation is handed, by the fault r[3] % 64: a count of 513 for 0, one near 2^64 for 1, a minimum of one more for 4, a count
-- of one more for 5, otherwise as it is
unfoldable pub given_of : List ℕ → CutList → CutList
given_of r list =
    cond
    (slice_index r 3 % 64 == 0)
    (cut_list list.min_duration 513)
    (cond
    (slice_index r 3 % 64 == 1)
    (cut_list list.min_duration (18446744073709551615 - slice_index r 4))
    (cond
    (slice_index r 3 % 64 == 4)
    (cut_list ((list.min_duration + 1) % 18446744073709551616) list.count)
    (cond (slice_index r 3 % 64 == 5) (cut_list list.min_duration ((list.count + 1) % 18446744073709551616)) list)))

-- the faulty place: one that has one before it, by r[6] and r[7]
unfoldable pub faulty_of : List ℕ → ℕ
faulty_of r = place_of (slice_index r 6) (slice_index r 7) % 511 + 1

-- by how much a number is moved: 1 for 3, the minimum for 4, one less than it for 5, half of it for 6, otherwise a byte
unfoldable pub moved_by : (minimum how b : ℕ) → ℕ
moved_by minimum how b =
    cond (how == 3) 1 (cond (how == 4) minimum (cond (how == 5) (less_of minimum 1) (cond (how == 6) (minimum / 2) b)))

-- a number that is moved: not for 0 to 5, up for an even one, down for an odd one, around 2^64
unfoldable pub moved_of : (n minimum how b : ℕ) → ℕ
moved_of n minimum how b =
    cond
    (nat_le how 5)
    n
    (cond (how % 2 == 0) ((n + moved_by minimum (how / 2) b) % 18446744073709551616) (less_of n (moved_by minimum (how / 2) b)))

-- what stands where a stamp should: the number before for 0, one before that for 1, one too close to it for 2 and else
unfoldable pub broken_of : (before minimum how b : ℕ) → ℕ
broken_of before minimum how b =
    cond
    (how == 0)
    before
    (cond
    (how == 1)
    (less_of before (b + 1))
    (cond (how == 2) ((before + minimum / 2) % 18446744073709551616) (less_of ((before + minimum) % 18446744073709551616) 1)))

-- the numbers at the ends: 0, 1, the three about 2^63, and the last three below 2^64
unfoldable pub end_list : List ℕ
end_list =
    0
    ∷ 1
    ∷ 9223372036854775807
    ∷ 9223372036854775808
    ∷ 9223372036854775809
    ∷ 18446744073709551613
    ∷ 18446744073709551614
    ∷ 18446744073709551615
    ∷ []

-- the number of the stamp at place i of the memory
abbrev pub raised_at : List ℤ → ℕ → ℕ
raised_at m i = raised_of (slice_index_or m i (pos 0))

-- the number of the stamp that twelve bytes describe beyond what fills, by k = r[at] % 16: for 0 to 9 the number at a place, moved, for 10 and 11
-- one at the ends, for 12 and 13 one of the 4096 about 2^63, otherwise eight bytes
unfoldable pub aimed_by : (k : ℕ) → List ℕ → (at minimum : ℕ) → List ℤ → ℕ
aimed_by k r at minimum m =
    cond
    (nat_le k 9)
    (moved_of (raised_at m (place_of (slice_index r (at + 1)) (slice_index r (at + 2)))) minimum (slice_index r (at + 3) % 16) (slice_index r (at + 4)))
    (cond
    (nat_le k 11)
    (slice_index end_list (slice_index r (at + 1) % 8))
    (cond (nat_le k 13) (9223372036854773760 + 16 * slice_index r (at + 1) + slice_index r (at + 2) % 16) (wide_of r (at + 4))))

-- the number of the stamp that twelve bytes describe: where the list is being filled, eight bytes for r[at] from 64 on
unfoldable pub aimed_of : List ℕ → ℕ → Bool → ℕ → List ℤ → ℕ
aimed_of r at fills minimum m = cond (fills && nat_le 64 (slice_index r at)) (wide_of r (at + 4)) (aimed_by (slice_index r at % 16) r at minimum m)

-- the other end of a span: the same stamp where r[31] % 8 is 0, otherwise one that the bytes from 20 on describe
unfoldable pub other_of : List ℕ → ℕ → Bool → ℕ → List ℤ → ℕ
other_of r ts fills minimum m = cond (slice_index r 31 % 8 == 0) ts (aimed_of r 20 fills minimum m)

-- the number at the faulty place: with a fault where r[3] % 64 is 6, otherwise as it is
unfoldable pub place_given : List ℕ → ℕ → List ℤ → ℕ
place_given r minimum m =
    cond
    (slice_index r 3 % 64 == 6)
    (broken_of (raised_at m (faulty_of r - 1)) minimum (slice_index r 4 % 4) (slice_index r 5))
    (raised_at m (faulty_of r))
