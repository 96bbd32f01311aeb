-- The list of a sitting (RULES 17.1 to 17.3): a record with a minimum distance and a count, and lent memory whose first `count` places hold the
-- stamps. A stamp is a whole number of microseconds.
use Rattle.std.specs.Prelude.{ℕ, Bool, true, not, ◌&&◌, ◌||◌, List, [], ◌∷◌, ltb, ℤ, pos, ◌+ℤ◌, length, take}
use Rattle.std.specs.Int.Signed.{le_z, lt_z}
use Rattle.refusal.specs.Refusal.{first_that}
use Rattle.cut_list.specs.declared.CutList.{CutList}

-- how many stamps a list holds at most, which is also how many places of the memory are the list's (RULES 17.1)
abbrev pub places : ℕ
places = 512

-- a list as a caller holds it: its record, and the memory that goes with it
pub record Held : Type 0 where
  pub list : CutList
  pub memory : List ℤ

abbrev pub held : CutList → List ℤ → Held
held l m = record { list = l; memory = m }

-- a record by its minimum distance and its count
abbrev pub cut_list : (minimum count : ℕ) → CutList
cut_list d n = record { min_duration = d; count = n }

-- a new list: its minimum, and no stamps (RULES 17.2)
unfoldable pub new_list : (minimum : ℕ) → CutList
new_list d = cut_list d 0

-- the stamps of a list: the first `count` places of its memory (RULES 17.1)
abbrev pub stamps_of : Held → List ℤ
stamps_of h = take h.list.count h.memory

-- a stamp y may follow a stamp x: it is later, and at least the minimum past it. The sum is of whole numbers: it neither wraps nor stops
-- (RULES 1.5, 17.3).
unfoldable pub follows : (minimum : ℕ) → (x y : ℤ) → Bool
follows d x y = lt_z x y && le_z (x +ℤ pos d) y

-- stamps in order: each may follow the one before it (RULES 17.3)
unfoldable pub in_order : (minimum : ℕ) → List ℤ → Bool
in_order d [] = true
in_order d (x ∷ []) = true
in_order d (x ∷ y ∷ ys) = follows d x y && in_order d (y ∷ ys)

-- 15: the count is over 512, the memory has under 512 places, or the stamps do not rise or are closer than the minimum (RULES 17.3)
unfoldable pub is_bad : Held → Bool
is_bad h = ltb places h.list.count || ltb (length h.memory) places || not (in_order h.list.min_duration (stamps_of h))

-- 15, or 0: the number of an operation that nothing but a bad list refuses (RULES 17.3)
unfoldable pub list_number : Held → ℕ
list_number h = first_that ((is_bad h, 15) ∷ [])
