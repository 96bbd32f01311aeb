-- Each table of marks as a whole is the list of the rule's marks for the medians 0 to 255: both lists are computed, and are the same.
use mathlib.Core.Path.{◌≡◌, refl, ap, ◌∙◌}
use mathlib.Core.List.{List}
use Prim.Native.Nat.{ℕ, ◌<◌}
use lib.ListN.{get_or}
use Rattle.laws.specs.Lists.{tabulate}
use Rattle.laws.proofs.Tab.{get_d_tabulate}
use Rattle.canny_marks.specs.Marks.{low_mark, high_mark}
use Rattle.canny_marks.specs.declared.table.TheConstants.{LOW_MARKS, HIGH_MARKS}

pub low_marks : LOW_MARKS ≡ tabulate 256 low_mark
unfolding tabulate low_mark
low_marks = refl

pub high_marks : HIGH_MARKS ≡ tabulate 256 high_mark
unfolding tabulate high_mark
high_marks = refl

-- and so is each entry
pub low_mark_at : (m : ℕ) → m < 256 → get_or LOW_MARKS m 0 ≡ low_mark m
low_mark_at m h = ap (λ (t : List ℕ). get_or t m 0) low_marks ∙ get_d_tabulate 256 low_mark 0 m h

pub high_mark_at : (m : ℕ) → m < 256 → get_or HIGH_MARKS m 0 ≡ high_mark m
high_mark_at m h = ap (λ (t : List ℕ). get_or t m 0) high_marks ∙ get_d_tabulate 256 high_mark 0 m h
