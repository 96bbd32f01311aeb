-- Adding a stamp, removing one, emptying the list (RULES 17.4 to 17.6). A refused operation changes no record and no place of the memory.
use Rattle.std.specs.Prelude.{ℕ, ◌+◌, ◌-◌, Bool, false, cond, not, ◌||◌, List, [], ◌∷◌, ◌++◌, eqb, ltb, ℤ, pos, drop, replicate}
use Rattle.std.specs.Int.Signed.{lt_z}
use Rattle.laws.specs.Lists.{leave_out}
use Rattle.refusal.specs.Refusal.{first_that}
use Rattle.timestamp.specs.Stamps.{distance}
use Rattle.cut_list.specs.declared.CutList.{CutList}
use Rattle.cut_list.specs.Record.{places, Held, held, cut_list, stamps_of, is_bad, list_number}

-- what an operation that may change a list leaves: its number, 0 or that of a refusal, and the list after it
pub record Turn : Type 0 where
  pub number : ℕ
  pub after : Held

abbrev pub turned : (number : ℕ) → CutList → List ℤ → Turn
turned n l m = record { number = n; after = held l m }

-- refused, the record and every place of the memory are as they were (RULES 17.10)
abbrev pub or_refused : (number : ℕ) → (before after : Held) → Turn
or_refused n h after = record { number = n; after = cond (eqb n 0) after h }

-- a stamp equals another
abbrev pub same : ℤ → ℤ → Bool
same t x = eqb (distance t x) 0

-- a stamp equals another, or lies closer to it than the minimum, before or after it (RULES 17.4)
unfoldable pub too_close : (minimum : ℕ) → (t x : ℤ) → Bool
too_close d t x = same t x || ltb (distance t x) d

-- some stamp of these has the property
unfoldable pub any_of : (ℤ → Bool) → List ℤ → Bool
any_of p [] = false
any_of p (x ∷ xs) = p x || any_of p xs

-- ---- add

-- 15; 17 when the stamp equals one of the list or lies closer to one than the minimum; 18 when 512 are held (RULES 17.4)
unfoldable pub add_number : Held → ℤ → ℕ
add_number h t =
    first_that
    ((is_bad h, 15) ∷
    (any_of (too_close h.list.min_duration t) (stamps_of h), 17) ∷
    (eqb h.list.count places, 18) ∷
    [])

-- rising stamps with one more in its place: before the first that is later, or last
unfoldable pub inserted : ℤ → List ℤ → List ℤ
inserted t [] = t ∷ []
inserted t (x ∷ xs) = cond (lt_z t x) (t ∷ x ∷ xs) (x ∷ inserted t xs)

-- a list with one more stamp: the stamps with it in its place, then the places past the new count, which keep their contents (RULES 17.4)
unfoldable pub with_stamp : Held → ℤ → Held
with_stamp h t = held (cut_list h.list.min_duration (h.list.count + 1)) (inserted t (stamps_of h) ++ drop (h.list.count + 1) h.memory)

-- add a stamp (RULES 17.4)
unfoldable pub added : Held → ℤ → Turn
added h t = or_refused (add_number h t) h (with_stamp h t)

-- ---- remove

-- 15; 19 when the stamp is not in the list (RULES 17.5)
unfoldable pub remove_number : Held → ℤ → ℕ
remove_number h t = first_that ((is_bad h, 15) ∷ (not (any_of (same t) (stamps_of h)), 19) ∷ [])

-- a list without a stamp that it has: the other stamps, then the freed place, which is set to 0, then the places past the old count, which keep
-- their contents (RULES 17.5)
unfoldable pub without_stamp : Held → ℤ → Held
without_stamp h t = held (cut_list h.list.min_duration (h.list.count - 1)) (leave_out (same t) (stamps_of h) ++ (pos 0 ∷ drop h.list.count h.memory))

-- remove a stamp (RULES 17.5)
unfoldable pub removed : Held → ℤ → Turn
removed h t = or_refused (remove_number h t) h (without_stamp h t)

-- ---- empty

-- a list without stamps: its minimum stays, its count is 0, and so are the places that held its stamps; the others keep their contents
-- (RULES 17.6)
unfoldable pub without_stamps : Held → Held
without_stamps h = held (cut_list h.list.min_duration 0) (replicate h.list.count (pos 0) ++ drop h.list.count h.memory)

-- empty a list (RULES 17.6)
unfoldable pub emptied : Held → Turn
emptied h = or_refused (list_number h) h (without_stamps h)
