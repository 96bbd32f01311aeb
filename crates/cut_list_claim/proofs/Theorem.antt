-- THE THEOREM: what `specs/Claim.antt` states holds of every list of operations, from a new list and memory of at least 512 places. Assumes nothing
-- else.
use Prim.Native.Nat.{ℕ, zero, suc, ◌≤◌}
use native.Mathlib.Omega.{arith}
use mathlib.Core.Path.{◌≡◌, refl, sym, ap, ◌∙◌, subst}
use mathlib.Core.Bool.{Bool, false, cond}
use mathlib.Core.List.{List, [], ◌∷◌}
use lib.Dec.{T, eqb}
use lib.IntN.{ℤ, pos, ◌+ℤ◌}
use lib.ListN.{length, get_or, drop}
use lib.Signed.{◌≤ℤ◌, ◌<ℤ◌, lt_z_yes}
use Rattle.laws.specs.Lists.{All, leave_out}
use Rattle.laws.proofs.All.{all-at}
use Rattle.laws.proofs.Whole.{sum-read, le-make, lt-lt_z}
use Rattle.cut_list.specs.Record.{places, Held, held, new_list, stamps_of, in_order, list_number}
use Rattle.cut_list.specs.Change.{Turn, same, any_of, inserted, with_stamp, without_stamp, without_stamps}
use Rattle.cut_list.specs.Find.{nearest_in, span_in, clip_in}
use Rattle.cut_list.proofs.Tests.{Past}
use Rattle.cut_list.proofs.Brought.{Sound}
use Rattle.cut_list_claim.specs.Run.{Operation, add, remove, empty, nearest, span, clip, operated, Operated, list_run, list_after, held_after, added_since}
use Rattle.cut_list_claim.specs.Claim.{Apart, ListClaim}
use Rattle.cut_list_claim.proofs.Order.{Sorted, insert-any, leave-any}
use Rattle.cut_list_claim.proofs.Steps.{sorted, not-bad, bad-not, Left, leaving, is_in, number-none, add-rows, add-leaves, remove-rows, remove-leaves, empty-rows, empty-leaves}

-- what an operation keeps
record Kept (h : Held) (o : Operation) (y : Turn) : Type 0 where
  no-15 : y.number ≡ 15 → ⊥
  sound : Sound y.after
  minimum : y.after.list.min_duration ≡ h.list.min_duration
  rest : drop places y.after.memory ≡ drop places h.memory
  members : (t : ℤ) → is_in y.after t ≡ cond (eqb y.number 0) (held_after t (is_in h t) o) (is_in h t)

module _ (h : Held) (g : Sound h) where
  -- the list stays as it was
  stayed : (o : Operation) (n : ℕ) → (n ≡ 15 → ⊥) → ((t : ℤ) → is_in h t ≡ cond (eqb n 0) (held_after t (is_in h t) o) (is_in h t))
      → Kept h o (leaving n h)
  stayed o n other same-members = record { no-15 = other; sound = g; minimum = refl; rest = refl; members = same-members }

  -- an accepted operation left these stamps
  changed : (o : Operation) (after : Held) (stamps : List ℤ) → Left h after stamps → ((t : ℤ) → any_of (same t) stamps ≡ held_after t (is_in h t) o)
      → Kept h o (leaving 0 after)
  changed o after stamps l new-members =
      record {
        no-15 = omega arith;
        sound = l.sound;
        minimum = l.minimum;
        rest = l.rest;
        members = λ t. ap (any_of (same t)) l.stamps-are ∙ new-members t;
      }

  -- a reader's number is 0, and it leaves the list as it was
  read : (o : Operation) (n : ℕ) → n ≡ 0 → ((t : ℤ) (was : Bool) → was ≡ held_after t was o) → Kept h o (leaving n h)
  read o n e same-members = rw e (stayed o 0 (omega arith) (λ t. same-members t (is_in h t)))

  none : list_number h ≡ 0
  none = number-none h (not-bad h g)

  abbrev stamps : List ℤ
  stamps = stamps_of h

  kept : (o : Operation) → Kept h o (operated h o)
  unfolding nearest_in span_in clip_in any_of
  kept (add t) =
      add-rows h t (Kept h (add t)) (bad-not h g)
      (λ _ _. stayed (add t) 17 (omega arith) (λ _. refl))
      (λ _ _ _. stayed (add t) 18 (omega arith) (λ _. refl))
      (λ _ clear room. changed (add t) (with_stamp h t) (inserted t stamps) (add-leaves h g t clear room) (λ s. insert-any t (same s) stamps))
  kept (remove t) =
      remove-rows h t (Kept h (remove t)) (bad-not h g)
      (λ _ _. stayed (remove t) 19 (omega arith) (λ _. refl))
      (λ _ there. changed (remove t) (without_stamp h t) (leave_out (same t) stamps) (remove-leaves h g t there) (λ s. leave-any s t stamps))
  kept empty = empty-rows h (Kept h empty) (bad-not h g) (λ _. changed empty (without_stamps h) [] (empty-leaves h g) (λ s. refl))
  kept (nearest t) = read (nearest t) (list_number h) none (λ _ _. refl)
  kept (span a b) = read (span a b) (list_number h) none (λ _ _. refl)
  kept (clip t) = read (clip t) (list_number h) none (λ _ _. refl)

-- ---- a list of operations, from a list that is not bad

run-no-15 : (h : Held) → Sound h → (os : List Operation) → All (λ (y : Operated). y.number ≡ 15 → ⊥) (list_run h os)
run-no-15 h g [] = tt
run-no-15 h g (o ∷ os) = let k = kept h g o in (k.no-15, run-no-15 (operated h o).after k.sound os)

after-sound : (h : Held) → Sound h → (os : List Operation) → Sound (list_after h os)
after-sound h g [] = g
after-sound h g (o ∷ os) = after-sound (operated h o).after (kept h g o).sound os

after-minimum : (h : Held) → Sound h → (os : List Operation) → (list_after h os).list.min_duration ≡ h.list.min_duration
after-minimum h g [] = refl
after-minimum h g (o ∷ os) = let k = kept h g o in after-minimum (operated h o).after k.sound os ∙ k.minimum

after-rest : (h : Held) → Sound h → (os : List Operation) → drop places (list_after h os).memory ≡ drop places h.memory
after-rest h g [] = refl
after-rest h g (o ∷ os) = let k = kept h g o in after-rest (operated h o).after k.sound os ∙ k.rest

after-members : (h : Held) → Sound h → (os : List Operation) (t : ℤ) → is_in (list_after h os) t ≡ added_since t (is_in h t) (list_run h os)
after-members h g [] t = refl
after-members h g (o ∷ os) t =
    let k = kept h g o in
    let next = (operated h o).after in
    after-members next k.sound os t ∙ ap (λ (was : Bool). added_since t was (list_run next os)) (k.members t)

-- ---- stamps in order are apart

parted : (d : ℕ) (x y : ℤ) → Past d x y → (x <ℤ y) × ((x +ℤ pos d) ≤ℤ y)
parted d x y f = (lt_z_yes (subst T (sym (lt-lt_z x y f.later)) tt), le-make {a = x +ℤ pos d} {b = y} (omega (arith, sum-read x (pos d), f.far)))

sorted_apart : (d : ℕ) (xs : List ℤ) → Sorted d xs → Apart d xs
sorted_apart d [] s i j a b = absurd (omega arith)
sorted_apart d (x ∷ xs) s i zero a b = absurd (omega arith)
sorted_apart d (x ∷ xs) s zero (suc j) a b = let y = get_or xs j (pos 0) in parted d x y (all-at (Past d x) (pos 0) xs j (omega arith) s.0)
sorted_apart d (x ∷ xs) s (suc i) (suc j) a b = sorted_apart d xs s.1 i j (omega arith) (omega arith)

-- ---- the theorem

pub new-sound : (minimum : ℕ) (memory : List ℤ) → places ≤ length memory → Sound (held (new_list minimum) memory)
unfolding new_list in_order
new-sound d memory long = record { few = omega arith; room = long; ordered = refl }

new-has-none : (minimum : ℕ) (memory : List ℤ) (t : ℤ) → is_in (held (new_list minimum) memory) t ≡ false
unfolding new_list any_of
new-has-none d memory t = refl

new-minimum : (minimum : ℕ) → (new_list minimum).min_duration ≡ minimum
unfolding new_list
new-minimum d = refl

pub list-claim : (minimum : ℕ) (memory : List ℤ) → places ≤ length memory → (os : List Operation) → ListClaim minimum memory os
list-claim d memory long os =
    let new = held (new_list d) memory in
    let g = new-sound d memory long in
    let stays : (list_after new os).list.min_duration ≡ d = after-minimum new g os ∙ new-minimum d in
    record {
      never-bad = run-no-15 new g os;
      apart = sorted_apart d (stamps_of (list_after new os)) (rw stays at (sorted (list_after new os) (after-sound new g os)));
      members = λ t. after-members new g os t ∙ ap (λ (was : Bool). added_since t was (list_run new os)) (new-has-none d memory t);
      minimum-stays = stays;
      rest-stays = after-rest new g os;
    }
