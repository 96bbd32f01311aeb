-- How a value that may be missing is held in words: a tag of 0 or 1, and the value, which is 0 where there is none. A double is held as its
-- bit pattern (`to_bits` and `of_bits`), a stamp in two's complement (`of_z` and `to_z`). RULES 15.2.
use Rattle.std.specs.Prelude.{Bool, true, false, ℕ, ◌%◌, eqb, Float, None, Option, Some}
use Rattle.std.specs.Bool.{then_some}
use Rattle.std.specs.Int.{w64}
use Rattle.std.proofs.Common.{of_z, to_z}
use Rattle.std.specs.Float.{binary64}
use Rattle.std.specs.Float.Ieee.{to_bits, of_bits}
use Rattle.score.specs.declared.Components.{Components}
use Rattle.score.specs.Scores.{components}
use Rattle.timestamp.specs.declared.Timestamp.{Timestamp}

-- the word of a flag: 1 for on, 0 for off
abbrev pub flag_word : Bool → ℕ
flag_word true = 1
flag_word false = 0

-- whether a word is read as on
abbrev pub flag_of : ℕ → Bool
flag_of w = eqb w 1

-- the tag of a value that may be missing: 1 where it is there, otherwise 0
abbrev pub tag_of : {A : Type 0} → Option A → ℕ
tag_of None = 0
tag_of (Some x) = 1

-- the tag of a stamp that may be missing
abbrev pub stamp_tag : Option Timestamp → ℕ
stamp_tag t = tag_of t

-- the value word of a stamp that may be missing: the stamp in two's complement, or 0
abbrev pub stamp_word : Option Timestamp → ℕ
stamp_word None = 0
stamp_word (Some t) = of_z w64 t.micros

-- the stamp that a value word is read as, where there is one
abbrev pub stamp_if : Bool → ℕ → Option Timestamp
stamp_if true w = Some (record { micros = to_z w64 w })
stamp_if false w = None

-- the stamp, or none, that a tag and a value word are read as
abbrev pub stamp_of : ℕ → ℕ → Option Timestamp
stamp_of tag w = stamp_if (flag_of tag) w

-- the tag of a score that may be missing
abbrev pub score_tag : Option Float → ℕ
score_tag s = tag_of s

-- the value word of a score that may be missing: its bits, or 0
abbrev pub score_word : Option Float → ℕ
score_word None = 0
score_word (Some x) = to_bits binary64 x

-- the score that a value word is read as, where there is one
abbrev pub score_if : Bool → ℕ → Option Float
score_if true w = Some (of_bits binary64 w)
score_if false w = None

-- the score, or none, that a tag and a value word are read as
abbrev pub score_of : ℕ → ℕ → Option Float
score_of tag w = score_if (flag_of tag) w

-- the tag of a kernel size: 1 where it is set, 0 where it goes by the frame's size
abbrev pub kernel_tag : Option ℕ → ℕ
kernel_tag k = tag_of k

-- the value word of a kernel size: the size that is set, or 0
abbrev pub kernel_word : Option ℕ → ℕ
kernel_word None = 0
kernel_word (Some k) = k

-- the kernel size that a value word is read as, by its low 32 bits, where it is set
abbrev pub kernel_if : Bool → ℕ → Option ℕ
kernel_if true w = Some (w % 4294967296)
kernel_if false w = None

-- the kernel size, set or not, that a tag and a value word are read as
abbrev pub kernel_of : ℕ → ℕ → Option ℕ
kernel_of tag w = kernel_if (flag_of tag) w

-- the components that four words are read as, each the bits of a double
abbrev pub components_of : ℕ → ℕ → ℕ → ℕ → Components
components_of hue sat lum edges = components (of_bits binary64 hue) (of_bits binary64 sat) (of_bits binary64 lum) (of_bits binary64 edges)

-- the tag of components that may be missing
abbrev pub components_tag : Option Components → ℕ
components_tag c = tag_of c

-- components that may be missing: these, where there are any
abbrev pub components_if : Bool → Components → Option Components
components_if there c = then_some there c
