-- What each operation does to a list that is not bad: it goes by the rows of its refusals, and leaves a list that is not bad. Assumes nothing.
use Prim.Native.Nat.{ℕ, ◌+◌, ◌-◌, ◌≤◌}
use native.Mathlib.Omega.{arith}
use mathlib.Core.Path.{◌≡◌, refl, sym, ap, ◌∙◌, subst}
use mathlib.Core.Bool.{Bool, true, false, cond, not, true≢false}
use mathlib.Core.List.{List, [], ◌∷◌, ◌++◌, append_assoc}
use lib.Dec.{eqb}
use lib.IntN.{ℤ, pos}
use lib.ListN.{length, take, drop, replicate, length-append, length-drop, length-replicate}
use lib.Seq.{length-take-le, take_at, drop-append-add, drop-drop}
use borrow.Author.Tests.{eqb-true, eqb-false, le-ltb}
use Rattle.laws.specs.Lists.{leave_out}
use Rattle.refusal.specs.Refusal.{first_that}
use Rattle.cut_list.specs.Record.{places, Held, held, cut_list, stamps_of, is_bad, list_number}
use Rattle.cut_list.specs.Change.{Turn, same, too_close, any_of, add_number, inserted, with_stamp, added, remove_number, without_stamp, removed, without_stamps, emptied}
use Rattle.cut_list.proofs.Brought.{Sound}
use Rattle.cut_list_claim.proofs.Order.{Sorted, in-order-read, in-order-make, insert-sorted, insert-length, leave-sorted, leave-length}

-- ---- a list that is not bad

pub sorted : (h : Held) → Sound h → Sorted h.list.min_duration (stamps_of h)
sorted h g = in-order-read h.list.min_duration (stamps_of h) g.ordered

pub not-bad : (h : Held) → Sound h → is_bad h ≡ false
unfolding is_bad
not-bad h g = rw (le-ltb places h.list.count g.few, le-ltb (length h.memory) places g.room, g.ordered)

-- no operation refuses it by 15
pub bad-not : {A : Type 0} (h : Held) → Sound h → is_bad h ≡ true → A
bad-not h g e = absurd (true≢false (sym e ∙ not-bad h g))

-- ---- memory whose first m places are written

module _ (front memory : List ℤ) (m : ℕ) (len : length front ≡ m) where
  put-length : m ≤ length memory → length (front ++ drop m memory) ≡ length memory
  put-length h = omega (arith, length-append front (drop m memory), length-drop m memory)

  put_rest : (n : ℕ) → m ≤ n → drop n (front ++ drop m memory) ≡ drop n memory
  put_rest n h =
      let past : n ≡ m + (n - m) = omega arith in
      let seam : n ≡ length front + (n - m) = omega arith in
      subst (λ (k : ℕ). drop k (front ++ drop m memory) ≡ drop n memory) (sym seam)
      (drop-append-add front (drop m memory) (n - m) ∙ drop-drop (n - m) m memory ∙ ap (λ (k : ℕ). drop k memory) (sym past))

-- ---- the rows of the refusals, one by one

-- an operation's number and the list that it leaves
abbrev pub leaving : ℕ → Held → Turn
leaving n after = record { number = n; after = after }

-- a stamp equals one of the list or lies closer to one than the minimum; it is in the list
abbrev pub is_close : Held → ℤ → Bool
is_close h t = any_of (too_close h.list.min_duration t) (stamps_of h)

abbrev pub is_in : Held → ℤ → Bool
is_in h t = any_of (same t) (stamps_of h)

module _ (h : Held) (t : ℤ) (P : Turn → Type 0) where
  pub add-rows : (is_bad h ≡ true → P (leaving 15 h)) → (is_bad h ≡ false → is_close h t ≡ true → P (leaving 17 h))
      → (is_bad h ≡ false → is_close h t ≡ false → h.list.count ≡ places → P (leaving 18 h))
      → (is_bad h ≡ false → is_close h t ≡ false → (h.list.count ≡ places → ⊥) → P (leaving 0 (with_stamp h t))) → P (added h t)
  unfolding added add_number
  add-rows bad close full ok = by (is_bad h) refl (is_close h t) refl (eqb h.list.count places) refl
    where
      by : (a : Bool) → is_bad h ≡ a → (b : Bool) → is_close h t ≡ b → (c : Bool) → eqb h.list.count places ≡ c
          → let n : ℕ = first_that ((a, 15) ∷ (b, 17) ∷ (c, 18) ∷ []) in P (leaving n (cond (eqb n 0) (with_stamp h t) h))
      by true p b q c r = bad p
      by false p true q c r = close p q
      by false p false q true r = full p q (eqb-true h.list.count places r)
      by false p false q false r = ok p q (eqb-false h.list.count places r)

  pub remove-rows : (is_bad h ≡ true → P (leaving 15 h)) → (is_bad h ≡ false → is_in h t ≡ false → P (leaving 19 h))
      → (is_bad h ≡ false → is_in h t ≡ true → P (leaving 0 (without_stamp h t))) → P (removed h t)
  unfolding removed remove_number
  remove-rows bad out ok = by (is_bad h) refl (is_in h t) refl
    where
      by : (a : Bool) → is_bad h ≡ a → (b : Bool) → is_in h t ≡ b
          → let n : ℕ = first_that ((a, 15) ∷ (not b, 19) ∷ []) in P (leaving n (cond (eqb n 0) (without_stamp h t) h))
      by true p b q = bad p
      by false p true q = ok p q
      by false p false q = out p q

pub empty-rows : (h : Held) (P : Turn → Type 0) → (is_bad h ≡ true → P (leaving 15 h)) → (is_bad h ≡ false → P (leaving 0 (without_stamps h)))
    → P (emptied h)
unfolding emptied list_number
empty-rows h P bad ok = by (is_bad h) refl
  where
    by : (a : Bool) → is_bad h ≡ a → let n : ℕ = first_that ((a, 15) ∷ []) in P (leaving n (cond (eqb n 0) (without_stamps h) h))
    by true p = bad p
    by false p = ok p

pub number-none : (h : Held) → is_bad h ≡ false → list_number h ≡ 0
unfolding list_number
number-none h e = rw e

-- ---- the list after an accepted operation

-- what an accepted operation leaves: these stamps, the minimum, the places from 512 on
pub record Left (h after : Held) (stamps : List ℤ) : Type 0 where
  pub stamps-are : stamps_of after ≡ stamps
  pub sound : Sound after
  pub minimum : after.list.min_duration ≡ h.list.min_duration
  pub length-stays : length after.memory ≡ length h.memory
  pub rest : drop places after.memory ≡ drop places h.memory

module _ (h : Held) (g : Sound h) where
  pub count-is : length (stamps_of h) ≡ h.list.count
  count-is = length-take-le h.list.count h.memory (omega (arith, g.few, g.room))

  -- stamps in order, then what else of the first m places is written, then the other places
  leaves : (n m : ℕ) (stamps wiped : List ℤ) → length stamps ≡ n → n + length wiped ≡ m → m ≤ places → Sorted h.list.min_duration stamps
      → Left h (held (cut_list h.list.min_duration n) (stamps ++ (wiped ++ drop m h.memory))) stamps
  leaves n m stamps wiped len total small order =
      let front : length (stamps ++ wiped) ≡ m = omega (arith, length-append stamps wiped) in
      let others = wiped ++ drop m h.memory in
      let joined = append_assoc stamps wiped (drop m h.memory) in
      let are : take n (stamps ++ others) ≡ stamps = take_at stamps others n len in
      let long : length (stamps ++ others) ≡ length h.memory = rw (← joined) (put-length (stamps ++ wiped) h.memory m front (omega (arith, g.room))) in
      record {
        stamps-are = are;
        sound = record { few = omega arith; room = omega (arith, g.room); ordered = rw are (in-order-make h.list.min_duration stamps order) };
        minimum = refl;
        length-stays = long;
        rest = rw (← joined) (put_rest (stamps ++ wiped) h.memory m front places small);
      }

  pub add-leaves : (t : ℤ) → is_close h t ≡ false → (h.list.count ≡ places → ⊥) → Left h (with_stamp h t) (inserted t (stamps_of h))
  unfolding with_stamp
  add-leaves t clear room =
      leaves (h.list.count + 1) (h.list.count + 1) (inserted t (stamps_of h)) []
      (omega (arith, insert-length t (stamps_of h), count-is)) (omega arith) (omega (arith, g.few))
      (insert-sorted t h.list.min_duration (stamps_of h) (sorted h g) clear)

  pub remove-leaves : (t : ℤ) → is_in h t ≡ true → Left h (without_stamp h t) (leave_out (same t) (stamps_of h))
  unfolding without_stamp
  remove-leaves t there =
      let one = leave-length h.list.min_duration t (stamps_of h) (sorted h g) there in
      leaves (h.list.count - 1) h.list.count (leave_out (same t) (stamps_of h)) (pos 0 ∷ [])
      (omega (arith, count-is)) (omega (arith, count-is)) g.few
      (leave-sorted (same t) h.list.min_duration (stamps_of h) (sorted h g))

  pub empty-leaves : Left h (without_stamps h) []
  unfolding without_stamps
  empty-leaves =
      leaves 0 h.list.count [] (replicate h.list.count (pos 0)) refl (omega (arith, length-replicate h.list.count (pos 0))) g.few tt
