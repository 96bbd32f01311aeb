-- Numbers and stamps in a text (RULES 11.2): decimal, with leading zeros allowed and a minus only before a stamp.
use Rattle.std.specs.Prelude.{Bool, true, false, cond, ◌&&◌, List, [], ◌∷◌, ℕ, ◌+◌, ◌-◌, ◌*◌, eqb, leb, ℤ, pos, neg_ℤ, Option, Some, None}
use Rattle.timestamp.specs.declared.Timestamp.{Timestamp}

-- a digit: `0` to `9`
abbrev pub is_digit : ℕ → Bool
is_digit b = leb 48 b && leb b 57

unfoldable pub all_digits : List ℕ → Bool
all_digits [] = true
all_digits (b ∷ bs) = is_digit b && all_digits bs

-- a number: digits, and at least one (RULES 11.2)
unfoldable pub is_number : List ℕ → Bool
is_number [] = false
is_number (b ∷ bs) = all_digits (b ∷ bs)

-- the number whose digits are those of n and then these
unfoldable pub number_from : ℕ → List ℕ → ℕ
number_from n [] = n
number_from n (b ∷ bs) = number_from (10 * n + (b - 48)) bs

-- the number that the digits are
abbrev pub number : List ℕ → ℕ
number bs = number_from 0 bs

-- a number of at most `most` (RULES 11.3)
unfoldable pub is_up_to : ℕ → List ℕ → Bool
is_up_to most bs = is_number bs && leb (number bs) most

-- a stamp: a number that a minus may precede, inside 64 bits (RULES 11.2, 11.3)
unfoldable pub is_stamp : List ℕ → Bool
is_stamp [] = false
is_stamp (b ∷ bs) = cond (eqb b 45) (is_up_to 9223372036854775808 bs) (is_up_to 9223372036854775807 (b ∷ bs))

-- the stamp that the text is; `-0` is 0 (RULES 11.4)
unfoldable pub stamp_of : List ℕ → ℤ
stamp_of [] = pos 0
stamp_of (b ∷ bs) = cond (eqb b 45) (neg_ℤ (pos (number bs))) (pos (number (b ∷ bs)))

-- a number that was read, if there is one
abbrev pub number_if : Bool → ℕ → Option ℕ
number_if is n = cond is (Some n) None

-- what a text says as a number of at most `most`
unfoldable pub number_read : ℕ → List ℕ → Option ℕ
number_read most bs = number_if (is_up_to most bs) (number bs)

-- what a text says as a stamp
unfoldable pub stamp_read : List ℕ → Option Timestamp
stamp_read bs = cond (is_stamp bs) (Some (record { micros = stamp_of bs })) None
