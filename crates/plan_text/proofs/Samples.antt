-- Sample texts, by computation (RULES 18.1, 18.2).
use mathlib.Core.Path.{◌≡◌, refl}
use mathlib.Core.List.{List, [], ◌∷◌, map}
use Prim.Native.Nat.{ℕ}
use Rattle.std.proofs.Common.{Some, None}
use lib.ListN.{length, replicate}
use Rattle.decimal.specs.Parts.{parted}
use Rattle.decimal.specs.Reading.{all_digits, is_number, number_from, is_up_to, number_read}
use Rattle.decimal.specs.Writing.{digits}
use Rattle.light_plan.specs.Rows.{row}
use Rattle.plan_text.specs.Text.{field_read, row_read, rows_of_parts, rows_read, row_text, rows_text}

-- `0,255,27` and a line feed
abbrev one_row : List ℕ
one_row = 48 ∷ 44 ∷ 50 ∷ 53 ∷ 53 ∷ 44 ∷ 50 ∷ 55 ∷ 10 ∷ []

one_is_read : rows_read one_row ≡ Some (row 0 255 27 ∷ [])
unfolding parted all_digits is_number number_from is_up_to number_read field_read row_read rows_of_parts rows_read
one_is_read = refl

-- the empty text has no rows
none_are_read : rows_read [] ≡ Some []
unfolding parted rows_of_parts rows_read
none_are_read = refl

-- `10,255,30` and then `0,9,5`: rows stand in any order
two_are_read : rows_read (49 ∷ 48 ∷ 44 ∷ 50 ∷ 53 ∷ 53 ∷ 44 ∷ 51 ∷ 48 ∷ 10 ∷ 48 ∷ 44 ∷ 57 ∷ 44 ∷ 53 ∷ 10 ∷ []) ≡ Some (row 10 255 30 ∷ row 0 9 5 ∷ [])
unfolding parted all_digits is_number number_from is_up_to number_read field_read row_read rows_of_parts rows_read
two_are_read = refl

-- texts of another shape, and after each its bytes
abbrev others : List (List ℕ)
others =
    -- no line feed after the row: `0,255,27`
    (48 ∷ 44 ∷ 50 ∷ 53 ∷ 53 ∷ 44 ∷ 50 ∷ 55 ∷ []) ∷
    -- a number too few: `0,255`
    (48 ∷ 44 ∷ 50 ∷ 53 ∷ 53 ∷ 10 ∷ []) ∷
    -- a number too many: `0,255,27,1`
    (48 ∷ 44 ∷ 50 ∷ 53 ∷ 53 ∷ 44 ∷ 50 ∷ 55 ∷ 44 ∷ 49 ∷ 10 ∷ []) ∷
    -- over 255: `0,255,256`
    (48 ∷ 44 ∷ 50 ∷ 53 ∷ 53 ∷ 44 ∷ 50 ∷ 53 ∷ 54 ∷ 10 ∷ []) ∷
    -- leading zeros: `00,255,27`
    (48 ∷ 48 ∷ 44 ∷ 50 ∷ 53 ∷ 53 ∷ 44 ∷ 50 ∷ 55 ∷ 10 ∷ []) ∷
    -- `0,255,027`
    (48 ∷ 44 ∷ 50 ∷ 53 ∷ 53 ∷ 44 ∷ 48 ∷ 50 ∷ 55 ∷ 10 ∷ []) ∷
    -- a line feed too many: `0,255,27`
    (48 ∷ 44 ∷ 50 ∷ 53 ∷ 53 ∷ 44 ∷ 50 ∷ 55 ∷ 10 ∷ 10 ∷ []) ∷
    -- a line feed alone
    (10 ∷ []) ∷
    -- a space before `0,255,27`
    (32 ∷ 48 ∷ 44 ∷ 50 ∷ 53 ∷ 53 ∷ 44 ∷ 50 ∷ 55 ∷ 10 ∷ []) ∷
    -- a sign: `+0,255,27`
    (43 ∷ 48 ∷ 44 ∷ 50 ∷ 53 ∷ 53 ∷ 44 ∷ 50 ∷ 55 ∷ 10 ∷ []) ∷
    -- `-0,255,27`
    (45 ∷ 48 ∷ 44 ∷ 50 ∷ 53 ∷ 53 ∷ 44 ∷ 50 ∷ 55 ∷ 10 ∷ []) ∷
    -- a carriage return after `0,255,27`
    (48 ∷ 44 ∷ 50 ∷ 53 ∷ 53 ∷ 44 ∷ 50 ∷ 55 ∷ 13 ∷ 10 ∷ []) ∷
    -- a number left out: `0,,27`
    (48 ∷ 44 ∷ 44 ∷ 50 ∷ 55 ∷ 10 ∷ []) ∷
    []

are_not_read : map rows_read others ≡ replicate 13 None
unfolding parted all_digits is_number number_from is_up_to number_read field_read row_read rows_of_parts rows_read
are_not_read = refl

-- `255,255,255` sixteen times has the most bytes
longest : length (rows_text (replicate 16 (row 255 255 255))) ≡ 192
unfolding digits row_text rows_text
longest = refl
