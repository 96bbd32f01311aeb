-- What holds of every list of operations on a list of stamps (RULES 17.11), of the cuts that go into one (RULES 17.12), of the places from 512
-- on (RULES 17.10), and of the readers together (RULES 17.13).
use Rattle.std.specs.Prelude.{ℕ, ◌-◌, ◌≤◌, ◌<◌, min, ◌≡◌, true, false, List, ◌∷◌, ◌++◌, map, ℤ, pos, ◌+ℤ◌, length, get_or, take, drop, replicate, ◌≤ℤ◌, ◌<ℤ◌, Some}
use Rattle.laws.specs.Lists.{All}
use Rattle.timestamp.specs.Stamps.{distance}
use Rattle.timestamp.specs.declared.Timestamp.{Timestamp}
use Rattle.cut_list.specs.declared.CutList.{CutList}
use Rattle.cut_list.specs.Record.{places, Held, held, new_list, stamps_of}
use Rattle.cut_list.specs.Change.{same, any_of}
use Rattle.cut_list.specs.Find.{nearest_in, span_in, clip_in}
use Rattle.cut_list_claim.specs.Run.{Operation, add, operated, Operated, list_run, list_after, added_since}

-- stamps that rise and keep the distance: of any two, the one at the later place is later, and at least the minimum past the other
abbrev pub Apart : (minimum : ℕ) → List ℤ → Type 0
Apart d xs =
    (i j : ℕ) → i < j → j < length xs → (get_or xs i (pos 0) <ℤ get_or xs j (pos 0)) × ((get_or xs i (pos 0) +ℤ pos d) ≤ℤ get_or xs j (pos 0))

-- The claim about a list of operations, from a new list and memory of at least 512 places (RULES 17.11).
pub record ListClaim (minimum : ℕ) (memory : List ℤ) (os : List Operation) : Type 0 where
  -- no operation is answered 15
  pub never-bad : All (λ (y : Operated). (y.number ≡ 15) → ⊥) (list_run (held (new_list minimum) memory) os)
  -- the stamps rise and keep the distance
  pub apart : Apart minimum (stamps_of (list_after (held (new_list minimum) memory) os))
  -- a stamp is in the list exactly if it was added and neither removed nor emptied out since
  pub members : (t : ℤ) → any_of (same t) (stamps_of (list_after (held (new_list minimum) memory) os)) ≡ added_since t false (list_run (held (new_list minimum) memory) os)
  -- the minimum stays, and so do the places from 512 on
  pub minimum-stays : (list_after (held (new_list minimum) memory) os).list.min_duration ≡ minimum
  pub rest-stays : drop places (list_after (held (new_list minimum) memory) os).memory ≡ drop places memory

-- the numbers of stamps that are added one after the other to an empty list and fit: 0 for the first 512 of them, then 18
abbrev pub fitting_numbers : List ℤ → List ℕ
fitting_numbers ts = replicate (min places (length ts)) 0 ++ replicate (length ts - places) 18

-- Stamps that can be added in their order to an empty list: none is refused by 17, and by 18 only from the 513th on (RULES 17.12).
abbrev pub FitsList : (minimum : ℕ) → (memory : List ℤ) → List ℤ → Type 0
FitsList d memory ts =
    map (λ (y : Operated). y.number) (list_run (held (new_list d) memory) (map add ts)) ≡ fitting_numbers ts

-- The places from 512 on are not read and not written: with other contents there each operation gives the same, and leaves them as they are
-- (RULES 17.10).
pub record RestUntouched (l : CutList) (first xs ys : List ℤ) : Type 0 where
  pub numbers : (o : Operation) → (operated (held l (first ++ xs)) o).number ≡ (operated (held l (first ++ ys)) o).number
  pub lists : (o : Operation) → (operated (held l (first ++ xs)) o).after.list ≡ (operated (held l (first ++ ys)) o).after.list
  pub firsts : (o : Operation) → take places (operated (held l (first ++ xs)) o).after.memory ≡ take places (operated (held l (first ++ ys)) o).after.memory
  pub rests : (o : Operation) → drop places (operated (held l (first ++ xs)) o).after.memory ≡ xs
  pub nearests : (t : ℤ) → nearest_in (held l (first ++ xs)) t ≡ nearest_in (held l (first ++ ys)) t
  pub spans : (a b : ℤ) → span_in (held l (first ++ xs)) a b ≡ span_in (held l (first ++ ys)) a b
  pub clips : (t : ℤ) → clip_in (held l (first ++ xs)) t ≡ clip_in (held l (first ++ ys)) t

-- The readers of a list that is not bad agree with each other (RULES 17.13).
pub record ReadersAgree (h : Held) (t : ℤ) : Type 0 where
  -- the span from the least stamp, which is the first, to t has as many members as the clip of t
  pub span-is-clip : (x : ℤ) (xs : List ℤ) → stamps_of h ≡ x ∷ xs → (span_in h x t).count ≡ (clip_in h t).clip
  -- and starts at the first place
  pub span-starts : (x : ℤ) (xs : List ℤ) → stamps_of h ≡ x ∷ xs → (span_in h x t).first ≡ 0
  -- a list with stamps has a nearest one
  pub nearest-is-there : (x : ℤ) (xs : List ℤ) → stamps_of h ≡ x ∷ xs → (s : Timestamp) × ((nearest_in h t).nearest ≡ Some s)
  -- the nearest stamp is one of the list
  pub nearest-is-in : (s : Timestamp) → (nearest_in h t).nearest ≡ Some s → any_of (same s.micros) (stamps_of h) ≡ true
  -- no stamp of the list is closer, and of those as close it is the earliest
  pub nearest-is-least : (s : Timestamp) → (nearest_in h t).nearest ≡ Some s → All (λ (x : ℤ). distance t s.micros ≤ distance t x) (stamps_of h)
  pub earliest-on-tie : (s : Timestamp) → (nearest_in h t).nearest ≡ Some s → All (λ (x : ℤ). distance t s.micros ≡ distance t x → s.micros ≤ℤ x) (stamps_of h)
