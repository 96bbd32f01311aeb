-- Sample lines, by computation: those of RULES 11.8, and what RULES 11.4 says of lines that may be read in two ways.
use mathlib.Core.Path.{◌≡◌, refl}
use mathlib.Core.Bool.{true, false}
use mathlib.Core.List.{List, [], ◌∷◌, ◌++◌, map}
use Prim.Native.Nat.{ℕ, zero, suc}
use Rattle.std.proofs.Common.{Option, Some, None}
use lib.IntN.{ℤ, pos, negsuc}
use lib.ListN.{replicate}
use Rattle.decimal.specs.Parts.{parted}
use Rattle.decimal.specs.Reading.{all_digits, is_number, number_from, is_up_to, is_stamp, stamp_of}
use Rattle.frame_line.specs.declared.FrameLine.{FrameLine}
use Rattle.frame_line.specs.Line.{all_values, is_frame_of, fields, is_frame_line, frame_of, luma_of, line_of}

-- each text, and after it its bytes
abbrev frames : List (List ℕ)
frames =
    -- `0,1,1,200`
    (48 ∷ 44 ∷ 49 ∷ 44 ∷ 49 ∷ 44 ∷ 50 ∷ 48 ∷ 48 ∷ []) ∷
    -- leading zeros: `007,01,1,0200`
    (48 ∷ 48 ∷ 55 ∷ 44 ∷ 48 ∷ 49 ∷ 44 ∷ 49 ∷ 44 ∷ 48 ∷ 50 ∷ 48 ∷ 48 ∷ []) ∷
    -- `0,5000,0`
    (48 ∷ 44 ∷ 53 ∷ 48 ∷ 48 ∷ 48 ∷ 44 ∷ 48 ∷ []) ∷
    -- `-0` is 0: `-0,0,0`
    (45 ∷ 48 ∷ 44 ∷ 48 ∷ 44 ∷ 48 ∷ []) ∷
    -- `-9223372036854775808,0,0`
    (45 ∷ 57 ∷ 50 ∷ 50 ∷ 51 ∷ 51 ∷ 55 ∷ 50 ∷ 48 ∷ 51 ∷ 54 ∷ 56 ∷ 53 ∷ 52 ∷ 55 ∷ 55 ∷ 53 ∷ 56 ∷ 48 ∷ 56 ∷ 44 ∷ 48 ∷ 44 ∷ 48 ∷ []) ∷
    -- `9223372036854775807,0,0`
    (57 ∷ 50 ∷ 50 ∷ 51 ∷ 51 ∷ 55 ∷ 50 ∷ 48 ∷ 51 ∷ 54 ∷ 56 ∷ 53 ∷ 52 ∷ 55 ∷ 55 ∷ 53 ∷ 56 ∷ 48 ∷ 55 ∷ 44 ∷ 48 ∷ 44 ∷ 48 ∷ []) ∷
    -- `0,4294967295,0`
    (48 ∷ 44 ∷ 52 ∷ 50 ∷ 57 ∷ 52 ∷ 57 ∷ 54 ∷ 55 ∷ 50 ∷ 57 ∷ 53 ∷ 44 ∷ 48 ∷ []) ∷
    []

abbrev others : List (List ℕ)
others =
    -- `-9223372036854775809,0,0`
    (45 ∷ 57 ∷ 50 ∷ 50 ∷ 51 ∷ 51 ∷ 55 ∷ 50 ∷ 48 ∷ 51 ∷ 54 ∷ 56 ∷ 53 ∷ 52 ∷ 55 ∷ 55 ∷ 53 ∷ 56 ∷ 48 ∷ 57 ∷ 44 ∷ 48 ∷ 44 ∷ 48 ∷ []) ∷
    -- `9223372036854775808,0,0`
    (57 ∷ 50 ∷ 50 ∷ 51 ∷ 51 ∷ 55 ∷ 50 ∷ 48 ∷ 51 ∷ 54 ∷ 56 ∷ 53 ∷ 52 ∷ 55 ∷ 55 ∷ 53 ∷ 56 ∷ 48 ∷ 56 ∷ 44 ∷ 48 ∷ 44 ∷ 48 ∷ []) ∷
    -- `0,4294967296,0`
    (48 ∷ 44 ∷ 52 ∷ 50 ∷ 57 ∷ 52 ∷ 57 ∷ 54 ∷ 55 ∷ 50 ∷ 57 ∷ 54 ∷ 44 ∷ 48 ∷ []) ∷
    -- `-,0,0`
    (45 ∷ 44 ∷ 48 ∷ 44 ∷ 48 ∷ []) ∷
    -- `+1,0,0`
    (43 ∷ 49 ∷ 44 ∷ 48 ∷ 44 ∷ 48 ∷ []) ∷
    -- `0,-0,0`
    (48 ∷ 44 ∷ 45 ∷ 48 ∷ 44 ∷ 48 ∷ []) ∷
    -- `0, 0,0`
    (48 ∷ 44 ∷ 32 ∷ 48 ∷ 44 ∷ 48 ∷ []) ∷
    -- `0,0,0` and a carriage return
    (48 ∷ 44 ∷ 48 ∷ 44 ∷ 48 ∷ 13 ∷ []) ∷
    -- `0,1,1,0,`
    (48 ∷ 44 ∷ 49 ∷ 44 ∷ 49 ∷ 44 ∷ 48 ∷ 44 ∷ []) ∷
    -- `0,1,2,0`
    (48 ∷ 44 ∷ 49 ∷ 44 ∷ 50 ∷ 44 ∷ 48 ∷ []) ∷
    -- `0,1,1,256`
    (48 ∷ 44 ∷ 49 ∷ 44 ∷ 49 ∷ 44 ∷ 50 ∷ 53 ∷ 54 ∷ []) ∷
    -- `0,0`
    (48 ∷ 44 ∷ 48 ∷ []) ∷
    -- an empty line
    [] ∷
    []

abbrev frame : ℤ → ℕ → ℕ → Option FrameLine
frame t w h = Some (record { stamp = record { micros = t }; width = w; height = h })

are-frames : map line_of frames ≡ frame (pos 0) 1 1 ∷ frame (pos 7) 1 1 ∷ frame (pos 0) 5000 0 ∷ frame (pos 0) 0 0 ∷ frame (negsuc 9223372036854775807) 0 0 ∷ frame (pos 9223372036854775807) 0 0 ∷ frame (pos 0) 4294967295 0 ∷ []
unfolding parted all_digits is_number number_from is_up_to is_stamp stamp_of all_values is_frame_of is_frame_line frame_of luma_of line_of
are-frames = refl

their-values : map (λ line. luma_of (fields line)) frames ≡ (200 ∷ []) ∷ (200 ∷ []) ∷ [] ∷ [] ∷ [] ∷ [] ∷ [] ∷ []
unfolding parted all_digits is_number number_from is_up_to is_stamp stamp_of all_values is_frame_of is_frame_line frame_of luma_of line_of
their-values = refl

are-none : map line_of others ≡ replicate 13 None
unfolding parted all_digits is_number number_from is_up_to is_stamp stamp_of all_values is_frame_of is_frame_line frame_of luma_of line_of
are-none = refl

-- values of 0, each after a comma: 1,024 after `0,32,32`, and 1,025 after `0,41,25`
abbrev zeros : ℕ → List ℕ
zeros zero = []
zeros (suc n) = 44 ∷ 48 ∷ zeros n

pixels : map is_frame_line (((48 ∷ 44 ∷ 51 ∷ 50 ∷ 44 ∷ 51 ∷ 50 ∷ []) ++ zeros 1024) ∷ ((48 ∷ 44 ∷ 52 ∷ 49 ∷ 44 ∷ 50 ∷ 53 ∷ []) ++ zeros 1025) ∷ []) ≡ true ∷ false ∷ []
unfolding parted all_digits is_number number_from is_up_to is_stamp stamp_of all_values is_frame_of is_frame_line frame_of luma_of line_of
pixels = refl
