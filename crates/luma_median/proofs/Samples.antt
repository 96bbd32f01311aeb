-- Medians by computation: of one pixel, of two, of three, of rows with padding, and of none.
use mathlib.Core.Path.{◌≡◌, refl}
use mathlib.Core.List.{[], ◌∷◌}
use Rattle.laws.specs.Lists.{tabulate}
use Rattle.arch_planes.specs.Packed.{packed}
use Rattle.canny_marks.specs.Median.{insert, sort, median_of}

one : median_of (packed (7 ∷ []) 1 1 1) ≡ 7
unfolding tabulate packed insert sort median_of
one = refl

two : median_of (packed (9 ∷ (3 ∷ [])) 2 1 2) ≡ 9
unfolding tabulate packed insert sort median_of
two = refl

three : median_of (packed (1 ∷ (2 ∷ (3 ∷ []))) 3 1 3) ≡ 2
unfolding tabulate packed insert sort median_of
three = refl

padded : median_of (packed (5 ∷ (200 ∷ (3 ∷ (201 ∷ (4 ∷ (202 ∷ [])))))) 1 3 2) ≡ 4
unfolding tabulate packed insert sort median_of
padded = refl

none : median_of (packed [] 0 0 0) ≡ 255
unfolding tabulate packed insert sort median_of
none = refl
