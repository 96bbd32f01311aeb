-- Stamps in order: what it keeps to insert one or to leave one out, and which stamps are there then. Assumes nothing.
use Prim.Native.Nat.{ℕ, suc}
use native.Mathlib.Omega.{arith}
use mathlib.Core.Path.{◌≡◌, refl, sym, ap, ◌∙◌}
use mathlib.Core.Bool.{Bool, true, false, cond, not, ◌&&◌, ◌||◌, true≢false}
use mathlib.Core.List.{List, [], ◌∷◌}
use lib.Dec.{ltb}
use lib.IntN.{ℤ}
use lib.ListN.{length}
use lib.Signed.{lt_z}
use borrow.Author.Tests.{eqb-false, ltb-false, not-false}
use Rattle.laws.specs.Lists.{All, leave_out}
use Rattle.laws.proofs.All.{all_map, leave_out-none}
use Rattle.laws.proofs.Bools.{or-false}
use Rattle.laws.proofs.Whole.{whole, lt_z-false, lt-lt_z, le-lt_z}
use Rattle.timestamp.specs.Stamps.{distance}
use Rattle.cut_list.specs.Record.{follows, in_order}
use Rattle.cut_list.specs.Change.{same, too_close, any_of, inserted}
use Rattle.cut_list.proofs.Tests.{Past, follows-read, follows-make, gap_down, close-before, close-after, past-other, same_read}
use Rattle.cut_list.proofs.Order.{all_past, tail-ordered, rest-past}

-- ---- two stamps

-- a stamp that is not too close to another is past it or has it past itself
clear-before : (d : ℕ) (t x : ℤ) → too_close d t x ≡ false → lt_z t x ≡ true → Past d t x
clear-before d t x e q = follows-read d t x (not-false (follows d t x) (sym (close-after d t x (le-lt_z x t (omega whole))) ∙ e))

clear-after : (d : ℕ) (t x : ℤ) → too_close d t x ≡ false → lt_z t x ≡ false → Past d x t
unfolding too_close
clear-after d t x e q =
    let tests = or-false (same t x) (ltb (distance t x) d) e in
    let gap = gap_down t x (lt_z-false t x q) in
    record { later = omega (arith, gap, eqb-false (distance t x) 0 tests.0); far = omega (arith, gap, ltb-false (distance t x) d tests.1) }

-- and one that is past another is not too close to it
pub past-clear : (d : ℕ) (t x : ℤ) → Past d x t → too_close d t x ≡ false
past-clear d t x p = rw (close-before d t x (lt-lt_z x t p.later), follows-make d x t p) refl

-- ---- stamps in order: all after a stamp are past it

abbrev pub Sorted : ℕ → List ℤ → Type 0
Sorted d [] = Unit {0}
Sorted d (x ∷ xs) = All (Past d x) xs × Sorted d xs

pub in-order-read : (d : ℕ) (xs : List ℤ) → in_order d xs ≡ true → Sorted d xs
in-order-read d [] e = tt
in-order-read d (x ∷ xs) e = (rest-past d x xs e, in-order-read d xs (tail-ordered d x xs e))

pub in-order-make : (d : ℕ) (xs : List ℤ) → Sorted d xs → in_order d xs ≡ true
unfolding in_order
in-order-make d [] s = refl
in-order-make d (x ∷ []) s = refl
in-order-make d (x ∷ y ∷ ys) s = rw (follows-make d x y s.0.0) (in-order-make d (y ∷ ys) s.1)

-- ---- one more stamp in its place

module _ (t : ℤ) where
  pub insert_all : (P : ℤ → Type 0) (xs : List ℤ) → P t → All P xs → All P (inserted t xs)
  unfolding inserted
  insert_all P [] p a = (p, tt)
  insert_all P (x ∷ xs) p a = by (lt_z t x) (insert_all P xs p a.1)
    where
      by : (b : Bool) → All P (inserted t xs) → All P (cond b (t ∷ x ∷ xs) (x ∷ inserted t xs))
      by true ih = (p, a)
      by false ih = (a.0, ih)

  pub insert-sorted : (d : ℕ) (xs : List ℤ) → Sorted d xs → any_of (too_close d t) xs ≡ false → Sorted d (inserted t xs)
  unfolding inserted any_of
  insert-sorted d [] s e = (tt, tt)
  insert-sorted d (x ∷ xs) s e =
      let tests = or-false (too_close d t x) (any_of (too_close d t) xs) e in
      by tests.0 (lt_z t x) refl (insert-sorted d xs s.1 tests.1)
    where
      by : too_close d t x ≡ false → (b : Bool) → lt_z t x ≡ b → Sorted d (inserted t xs) → Sorted d (cond b (t ∷ x ∷ xs) (x ∷ inserted t xs))
      by clear true q ih = let p = clear-before d t x clear q in ((p, all_past xs p s.0), s)
      by clear false q ih = (insert_all (Past d x) xs (clear-after d t x clear q) s.0, ih)

  pub insert-length : (xs : List ℤ) → length (inserted t xs) ≡ suc (length xs)
  unfolding inserted
  insert-length [] = refl
  insert-length (x ∷ xs) = by (lt_z t x) (insert-length xs)
    where
      by : (b : Bool) → length (inserted t xs) ≡ suc (length xs) → length (cond b (t ∷ x ∷ xs) (x ∷ inserted t xs)) ≡ suc (suc (length xs))
      by true ih = refl
      by false ih = ap suc ih

  pub insert-any : (p : ℤ → Bool) (xs : List ℤ) → any_of p (inserted t xs) ≡ (p t || any_of p xs)
  unfolding inserted any_of
  insert-any p [] = refl
  insert-any p (x ∷ xs) = by (lt_z t x) (insert-any p xs)
    where
      either : (a b c : Bool) → (a || (b || c)) ≡ (b || (a || c))
      either true true c = refl
      either true false c = refl
      either false b c = refl

      by : (b : Bool) → any_of p (inserted t xs) ≡ (p t || any_of p xs)
          → any_of p (cond b (t ∷ x ∷ xs) (x ∷ inserted t xs)) ≡ (p t || (p x || any_of p xs))
      by true ih = refl
      by false ih = rw ih (either (p x) (p t) (any_of p xs))

-- ---- a stamp left out

module _ (out : ℤ → Bool) where
  pub leave-all : (P : ℤ → Type 0) (xs : List ℤ) → All P xs → All P (leave_out out xs)
  leave-all P [] a = tt
  leave-all P (x ∷ xs) a = by (out x) (leave-all P xs a.1)
    where
      by : (b : Bool) → All P (leave_out out xs) → All P (cond b (leave_out out xs) (x ∷ leave_out out xs))
      by true ih = ih
      by false ih = (a.0, ih)

  pub leave-sorted : (d : ℕ) (xs : List ℤ) → Sorted d xs → Sorted d (leave_out out xs)
  leave-sorted d [] s = tt
  leave-sorted d (x ∷ xs) s = by (out x) (leave-sorted d xs s.1)
    where
      by : (b : Bool) → Sorted d (leave_out out xs) → Sorted d (cond b (leave_out out xs) (x ∷ leave_out out xs))
      by true ih = ih
      by false ih = (leave-all (Past d x) xs s.0, ih)

-- of stamps in order one is left out, if it is there
pub leave-length : (d : ℕ) (t : ℤ) (xs : List ℤ) → Sorted d xs → any_of (same t) xs ≡ true → suc (length (leave_out (same t) xs)) ≡ length xs
unfolding any_of
leave-length d t [] s e = absurd (true≢false (sym e))
leave-length d t (x ∷ xs) s e = by (same t x) refl e (leave-length d t xs s.1)
  where
    by : (b : Bool) → same t x ≡ b → (b || any_of (same t) xs) ≡ true → (any_of (same t) xs ≡ true → suc (length (leave_out (same t) xs)) ≡ length xs)
        → suc (length (cond b (leave_out (same t) xs) (x ∷ leave_out (same t) xs))) ≡ suc (length xs)
    by true q a ih = rw (leave_out-none (same t) xs (rw (same_read t x q) (all_map (λ y p. past-other x y p.later) xs s.0)))
    by false q a ih = ap suc (ih a)

-- the others stay, and it is gone
pub leave-any : (s t : ℤ) (xs : List ℤ) → any_of (same s) (leave_out (same t) xs) ≡ (not (same s t) && any_of (same s) xs)
unfolding any_of
leave-any s t [] = by (not (same s t))
  where
    by : (b : Bool) → false ≡ (b && false)
    by true = refl
    by false = refl
leave-any s t (x ∷ xs) = by (same t x) refl (same s t) refl (leave-any s t xs)
  where
    by : (b : Bool) → same t x ≡ b → (c : Bool) → same s t ≡ c → any_of (same s) (leave_out (same t) xs) ≡ (not c && any_of (same s) xs)
        → any_of (same s) (cond b (leave_out (same t) xs) (x ∷ leave_out (same t) xs)) ≡ (not c && (same s x || any_of (same s) xs))
    by true q true r ih = ih
    by true q false r ih = rw (← same_read t x q, r) ih
    by false q true r ih = rw (same_read s t r, q) ih
    by false q false r ih = rw ih
