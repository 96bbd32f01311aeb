-- Lines of the session program (RULES 11.2, 11.3): `stamp,width,height` and then the luma values, in decimal, separated by commas.
use Rattle.std.specs.Prelude.{Bool, true, false, cond, ◌&&◌, List, [], ◌∷◌, map, ℕ, ◌*◌, eqb, leb, length, Option, Some, None}
use Rattle.decimal.specs.Parts.{parted}
use Rattle.decimal.specs.Reading.{is_up_to, is_stamp, number, stamp_of}
use Rattle.frame_line.specs.declared.FrameLine.{FrameLine}

-- each value is a number of at most 255 (RULES 11.3)
unfoldable pub all_values : List (List ℕ) → Bool
all_values [] = true
all_values (v ∷ vs) = is_up_to 255 v && all_values vs

-- the fields of a frame line, which are stamp, width, height and values: a stamp inside 64 bits, sides inside 32 bits, at most 1,024 pixels, as
-- many values as pixels, and no value over 255 (RULES 11.3)
unfoldable pub is_frame_of : List (List ℕ) → Bool
is_frame_of [] = false
is_frame_of (s ∷ []) = false
is_frame_of (s ∷ w ∷ []) = false
is_frame_of (s ∷ w ∷ h ∷ vs) =
    is_stamp s &&
    (is_up_to 4294967295 w &&
    (is_up_to 4294967295 h &&
    (leb (number w * number h) 1024 &&
    (eqb (length vs) (number w * number h) &&
    all_values vs))))

-- the fields of a line, which commas separate (RULES 11.2)
abbrev pub fields : List ℕ → List (List ℕ)
fields line = parted 44 line

-- whether a line is a frame line; the answer is 16 where it is not. It has at most 8,192 bytes, the line feed not counted (RULES 11.3).
unfoldable pub is_frame_line : List ℕ → Bool
is_frame_line line = leb (length line) 8192 && is_frame_of (fields line)

-- the stamp and the sides that the fields of a frame line say (RULES 11.2)
unfoldable pub frame_of : List (List ℕ) → Option FrameLine
frame_of [] = None
frame_of (s ∷ []) = None
frame_of (s ∷ w ∷ []) = None
frame_of (s ∷ w ∷ h ∷ vs) = Some (record { stamp = record { micros = stamp_of s }; width = number w; height = number h })

-- the luma values that the fields of a frame line say, row by row (RULES 11.2)
unfoldable pub luma_of : List (List ℕ) → List ℕ
luma_of [] = []
luma_of (s ∷ []) = []
luma_of (s ∷ w ∷ []) = []
luma_of (s ∷ w ∷ h ∷ vs) = map number vs

-- what a line says: its frame, or none where it is not a valid frame line (RULES 11.2, 11.3)
unfoldable pub line_of : List ℕ → Option FrameLine
line_of line = cond (is_frame_line line) (frame_of (fields line)) None
