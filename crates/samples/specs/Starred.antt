-- The samples that are proved of the definitions (RULES 13.1): what the definitions give for each, and what it must be.
use Rattle.std.specs.Prelude.{true, List, [], ◌∷◌, map, ℕ, suc, leb, ℤ, pos, None, Option, Some}
use Rattle.arch_hsv.specs.Hsv.{hue, saturation, value}
use Rattle.canny_marks.specs.Marks.{low_mark, high_mark}
use Rattle.canny_marks.specs.Kernel.{auto_kernel_size}
use Rattle.filter.specs.declared.FilterMode.{FilterMode}
use Rattle.filter.specs.declared.FilterMode.TheVariants.{Suppress, Merge}
use Rattle.filter.specs.Calls.{FilterCall, frame, filter_run}
use Rattle.filter.specs.Claim.{answers}
use Rattle.timestamp.specs.declared.Timestamp.{Timestamp}

-- (H, S, V) of the pixel (B, G, R) (RULES 3)
abbrev pub hsv : ℕ → ℕ → ℕ → List ℕ
hsv b g r = hue b g r ∷ saturation b g r ∷ value b g r ∷ []

-- the low and the high mark of a median (RULES 5.4, 5.5)
abbrev pub marks : ℕ → List ℕ
marks m = low_mark m ∷ high_mark m ∷ []

-- k of each of the three sizes, where none is set (RULES 5.13)
abbrev pub kernels : List ℕ
kernels = auto_kernel_size 287 289 ∷ auto_kernel_size 288 288 ∷ auto_kernel_size 1920 1080 ∷ []

-- a frame with this stamp and score, at threshold 27 (RULES 6.7)
abbrev pub scored : ℕ → ℕ → FilterCall
scored stamp score = frame 1 1 (record { stamp = record { micros = pos stamp }; above = leb 27 score })

-- a first frame, which has no score, then the five scored frames of the sample
abbrev pub strip : List FilterCall
strip = scored 0 0 ∷ scored 400000 30 ∷ scored 900000 30 ∷ scored 1400000 30 ∷ scored 2400000 30 ∷ scored 3400000 5 ∷ []

-- for each answer that is a cut: the number of its call, from 0, and the cut
abbrev pub cuts_from : ℕ → List (Option Timestamp) → List ℤ
cuts_from n [] = []
cuts_from n (None ∷ rs) = cuts_from (suc n) rs
cuts_from n (Some t ∷ rs) = pos n ∷ t.micros ∷ cuts_from (suc n) rs

-- the cuts of these frames in this mode, with a minimum of 1,000,000 and `initial_cut` on (RULES 7.3, 7.4)
abbrev pub filtered : FilterMode → List ℤ
filtered mode = cuts_from 0 (answers (filter_run (record { filter_mode = mode; min_duration = 1000000; initial_cut = true }) strip))

-- a row of natural numbers
abbrev pub row : List ℕ → List ℤ
row ns = map pos ns

-- what the definitions give for five pixels, four medians, three sizes, and the frames in Suppress and in Merge (RULES 13.1)
abbrev pub given : List (List ℤ)
given =
    row (hsv 0 0 255)
    ∷ row (hsv 0 255 0)
    ∷ row (hsv 1 0 255)
    ∷ row (hsv 1 0 60)
    ∷ row (hsv 1 1 2)
    ∷ row (marks 3)
    ∷ row (marks 191)
    ∷ row (marks 192)
    ∷ row (marks 255)
    ∷ row kernels
    ∷ filtered Suppress
    ∷ filtered Merge
    ∷ []

-- what it must be, row by row (RULES 13.1). Call 5 is the frame at 3400000.
abbrev pub printed : List (List ℤ)
printed =
    row (0 ∷ 255 ∷ 255 ∷ [])
    ∷ row (60 ∷ 255 ∷ 255 ∷ [])
    ∷ row (179 ∷ 255 ∷ 255 ∷ [])
    ∷ row (179 ∷ 255 ∷ 60 ∷ [])
    ∷ row (0 ∷ 128 ∷ 2 ∷ [])
    ∷ row (1 ∷ 4 ∷ [])
    ∷ row (127 ∷ 254 ∷ [])
    ∷ row (127 ∷ 255 ∷ [])
    ∷ row (169 ∷ 255 ∷ [])
    ∷ row (5 ∷ 7 ∷ 13 ∷ [])
    ∷ row (1 ∷ 400000 ∷ 3 ∷ 1400000 ∷ 4 ∷ 2400000 ∷ [])
    ∷ row (1 ∷ 400000 ∷ 5 ∷ 2400000 ∷ [])
    ∷ []
