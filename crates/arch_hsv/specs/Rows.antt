-- What the private functions of the conversion give.
use Rattle.std.specs.Prelude.{List, ℕ, zero, suc, ◌+◌, ◌*◌, get_or, set}
use Rattle.arch_hsv.specs.Hsv.{hue, saturation, value}

-- f of blue, green and red of pixel x of a row
abbrev pub of_pixel : (ℕ → ℕ → ℕ → ℕ) → List ℕ → ℕ → ℕ
of_pixel f row x = f (get_or row (3 * x) 0) (get_or row (3 * x + 1) 0) (get_or row (3 * x + 2) 0)

-- out with the first w pixels of row stored from place `first` of its three planes of n bytes
unfoldable pub row_stored : List ℕ → List ℕ → ℕ → ℕ → ℕ → List ℕ
row_stored out row first n zero = out
row_stored out row first n (suc x) =
    set
    (set
    (set (row_stored out row first n x) (first + x) (of_pixel hue row x))
    (n + (first + x))
    (of_pixel saturation row x))
    (n + (n + (first + x)))
    (of_pixel value row x)
