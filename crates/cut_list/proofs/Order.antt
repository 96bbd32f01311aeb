-- What holds of stamps in order. Most laws speak of a stamp t and of p, how many of the stamps are before t: p is then the place where t stands,
-- or would stand.
use Prim.Native.Nat.{ℕ, zero, suc, ◌+◌, ◌≤◌, ◌<◌}
use native.Mathlib.Nat.{suc-add, not-suc-le-zero}
use native.Mathlib.Omega.{arith}
use mathlib.Core.Path.{◌≡◌, refl, sym}
use mathlib.Core.Bool.{Bool, true, false, cond, not, ◌&&◌, ◌||◌, true≢false}
use mathlib.Core.List.{List, [], ◌∷◌, ◌++◌}
use borrow.Author.Tests.{lt-ltb}
use lib.Dec.{ltb, leb-suc-suc}
use lib.IntN.{ℤ, pos}
use lib.ListN.{length, get_or, take, drop}
use lib.Signed.{lt_z}
use Rattle.laws.specs.Lists.{All, leave_out}
use Rattle.laws.proofs.All.{all_map, all-at, leave_out-none}
use Rattle.laws.proofs.Bools.{and-true, or-false}
use Rattle.laws.proofs.Whole.{whole, lt-lt_z, le-lt_z}
use Rattle.timestamp.specs.Stamps.{distance}
use Rattle.cut_list.specs.Record.{follows, in_order}
use Rattle.cut_list.specs.Change.{same, too_close, any_of, inserted}
use Rattle.cut_list.specs.Find.{how_many}
use Rattle.cut_list.proofs.Tests.{Past, follows-read, follows-make, past-trans, close-before, close-after, before-other, other-past, past-other, same_read}

-- how many stamps are before t
abbrev pub before : ℤ → List ℤ → ℕ
before t xs = how_many (λ (x : ℤ). lt_z x t) xs

-- ---- order

pub tail-ordered : (d : ℕ) (x : ℤ) (xs : List ℤ) → in_order d (x ∷ xs) ≡ true → in_order d xs ≡ true
unfolding in_order
tail-ordered d x [] e = refl
tail-ordered d x (y ∷ ys) e = (and-true (follows d x y) (in_order d (y ∷ ys)) e).1

pub all_past : {d : ℕ} {x y : ℤ} (ys : List ℤ) → Past d x y → All (Past d y) ys → All (Past d x) ys
all_past ys p h = all_map (λ z q. past-trans p q) ys h

-- every stamp may follow each one before it, and not its neighbour alone
pub rest-past : (d : ℕ) (x : ℤ) (xs : List ℤ) → in_order d (x ∷ xs) ≡ true → All (Past d x) xs
unfolding in_order
rest-past d x [] e = tt
rest-past d x (y ∷ ys) e =
    let p = and-true (follows d x y) (in_order d (y ∷ ys)) e in
    let q = follows-read d x y p.0 in
    (q, all_past ys q (rest-past d y ys p.1))

-- ---- counting

pub how_many-le : (p : ℤ → Bool) (xs : List ℤ) → how_many p xs ≤ length xs
unfolding how_many
how_many-le p [] = omega arith
how_many-le p (x ∷ xs) = by (p x) (how_many-le p xs)
  where
    by : (b : Bool) {n : ℕ} → n ≤ length xs → cond b 1 0 + n ≤ suc (length xs)
    by true h = omega arith
    by false h = omega arith

pub none-have : (p : ℤ → Bool) (xs : List ℤ) → All (λ (x : ℤ). p x ≡ false) xs → how_many p xs ≡ 0
unfolding how_many
none-have p [] h = refl
none-have p (x ∷ xs) h = rw (h.0, none-have p xs h.1)

pub any_of-none : (p : ℤ → Bool) (xs : List ℤ) → All (λ (x : ℤ). p x ≡ false) xs → any_of p xs ≡ false
unfolding any_of
any_of-none p [] h = refl
any_of-none p (x ∷ xs) h = rw (h.0, any_of-none p xs h.1)

-- a first stamp that is not before t: none is
module _ (d : ℕ) (t x : ℤ) (xs : List ℤ) (ordered : in_order d (x ∷ xs) ≡ true) (h : lt_z x t ≡ false) where
  later_ones : All (λ (y : ℤ). lt_z y t ≡ false) xs
  later_ones = all_map (λ y p. let l = p.later in le-lt_z y t (omega whole)) xs (rest-past d x xs ordered)

  pub none_before : before t (x ∷ xs) ≡ 0
  unfolding how_many
  none_before = rw (h, none-have (λ (y : ℤ). lt_z y t) xs later_ones)

-- a stamp before t counts
pub one-before : (t x : ℤ) (xs : List ℤ) → lt_z x t ≡ true → before t (x ∷ xs) ≡ suc (before t xs)
unfolding how_many
one-before t x xs h = rw h (omega arith)

-- ---- adding

-- t may follow the stamp before place p; there is none before the first
abbrev pub earlier_ok : ℕ → ℤ → List ℤ → ℕ → Bool
earlier_ok d t xs zero = true
earlier_ok d t xs (suc q) = follows d (get_or xs q (pos 0)) t

-- the stamp at place p may follow t; there is none past the last
abbrev pub later_ok : ℕ → ℤ → List ℤ → ℕ → Bool
later_ok d t xs p = cond (ltb p (length xs)) (follows d t (get_or xs p (pos 0))) true

not-both : (a b : Bool) → (not a || not b) ≡ not (a && b)
not-both true b = refl
not-both false b = refl

-- where the first implies the second, asking the second too changes nothing
implied : (f e l : Bool) → (e ≡ true → f ≡ true) → (not f || not (e && l)) ≡ not (e && l)
implied true e l k = refl
implied false true l k = absurd (true≢false (sym (k refl)))
implied false false l k = refl

later_same : (d : ℕ) (t x : ℤ) (xs : List ℤ) (p : ℕ) → later_ok d t (x ∷ xs) (suc p) ≡ later_ok d t xs p
later_same d t x xs p = rw (leb-suc-suc (suc p) (length xs))

-- a stamp before t in front
with-earlier : (d : ℕ) (t x : ℤ) (xs : List ℤ) → in_order d (x ∷ xs) ≡ true → lt_z x t ≡ true → (p : ℕ) → p ≤ length xs
    → any_of (too_close d t) xs ≡ not (earlier_ok d t xs p && later_ok d t xs p)
    → any_of (too_close d t) (x ∷ xs) ≡ not (earlier_ok d t (x ∷ xs) (suc p) && later_ok d t (x ∷ xs) (suc p))
unfolding any_of
with-earlier d t x xs o h zero le ih = rw (close-before d t x h, ih, later_same d t x xs 0) (not-both (follows d x t) (later_ok d t xs 0))
with-earlier d t x xs o h (suc q) le ih =
    rw (close-before d t x h, ih, later_same d t x xs (suc q))
    (implied (follows d x t) (follows d (get_or xs q (pos 0)) t) (later_ok d t xs (suc q))
    (λ e. follows-make d x t (past-trans (all-at (Past d x) (pos 0) xs q le (rest-past d x xs o)) (follows-read d (get_or xs q (pos 0)) t e))))

-- a first stamp that is not before t
with-later : (d : ℕ) (t x : ℤ) (xs : List ℤ) → in_order d (x ∷ xs) ≡ true → lt_z x t ≡ false → (f : Bool) → follows d t x ≡ f
    → any_of (too_close d t) (x ∷ xs) ≡ not f
unfolding any_of
with-later d t x xs o h true f =
    let far : All (λ (y : ℤ). too_close d t y ≡ false) xs =
    all_map (λ y p. let l = p.later in
    rw (close-after d t y (le-lt_z y t (omega whole)), follows-make d t y (past-trans (follows-read d t x f) p)) refl)
    xs (rest-past d x xs o) in
    rw (close-after d t x h, f, any_of-none (too_close d t) xs far)
with-later d t x xs o h false f = rw (close-after d t x h, f)

-- t lies too close to none exactly if it may stand at its place between its two neighbours
pub fits : (d : ℕ) (t : ℤ) (xs : List ℤ) → in_order d xs ≡ true
    → any_of (too_close d t) xs ≡ not (earlier_ok d t xs (before t xs) && later_ok d t xs (before t xs))
unfolding any_of how_many
fits d t [] o = refl
fits d t (x ∷ xs) o = by (lt_z x t) refl (fits d t xs (tail-ordered d x xs o))
  where
    by : (b : Bool) → lt_z x t ≡ b → any_of (too_close d t) xs ≡ not (earlier_ok d t xs (before t xs) && later_ok d t xs (before t xs))
        → any_of (too_close d t) (x ∷ xs) ≡ not (earlier_ok d t (x ∷ xs) (before t (x ∷ xs)) && later_ok d t (x ∷ xs) (before t (x ∷ xs)))
    by true h ih = rw (one-before t x xs h) (with-earlier d t x xs o h (before t xs) (how_many-le (λ (y : ℤ). lt_z y t) xs) ih)
    by false h ih = rw (none_before d t x xs o h, lt-ltb 0 (suc (length xs)) (omega arith)) (with-later d t x xs o h (follows d t x) refl)

-- then its place in order is p
pub inserted-at : (d : ℕ) (t : ℤ) (xs : List ℤ) → in_order d xs ≡ true → any_of (too_close d t) xs ≡ false
    → inserted t xs ≡ take (before t xs) xs ++ (t ∷ drop (before t xs) xs)
unfolding inserted any_of how_many too_close
inserted-at d t [] o free = refl
inserted-at d t (x ∷ xs) o free = by (lt_z x t) refl (or-false (too_close d t x) (any_of (too_close d t) xs) free).0 (inserted-at d t xs (tail-ordered d x xs o) (or-false (too_close d t x) (any_of (too_close d t) xs) free).1)
  where
    by : (b : Bool) → lt_z x t ≡ b → too_close d t x ≡ false → inserted t xs ≡ take (before t xs) xs ++ (t ∷ drop (before t xs) xs)
        → inserted t (x ∷ xs) ≡ take (before t (x ∷ xs)) (x ∷ xs) ++ (t ∷ drop (before t (x ∷ xs)) (x ∷ xs))
    by true h n ih = rw (one-before t x xs h, le-lt_z t x (omega whole), ih)
    by false h n ih =
        let p = other-past t x h (or-false (same t x) (ltb (distance t x) d) n).0 in
        let l = p.later in
        rw (none_before d t x xs o h, lt-lt_z t x l)

-- ---- removing

-- t is among the stamps exactly if it stands at its place
pub stands : (d : ℕ) (t : ℤ) (xs : List ℤ) → in_order d xs ≡ true
    → any_of (same t) xs ≡ cond (ltb (before t xs) (length xs)) (same t (get_or xs (before t xs) (pos 0))) false
unfolding any_of how_many
stands d t [] o = refl
stands d t (x ∷ xs) o = by (lt_z x t) refl (stands d t xs (tail-ordered d x xs o))
  where
    rest : lt_z x t ≡ false → same t x ≡ false → All (λ (y : ℤ). same t y ≡ false) xs
    rest h k = all_map (λ y p. let l = p.later in let m = (other-past t x h k).later in past-other t y (omega arith)) xs (rest-past d x xs o)

    at_first : lt_z x t ≡ false → (s : Bool) → same t x ≡ s → (s || any_of (same t) xs) ≡ s
    at_first h true e = refl
    at_first h false e = any_of-none (same t) xs (rest h e)

    by : (b : Bool) → lt_z x t ≡ b → any_of (same t) xs ≡ cond (ltb (before t xs) (length xs)) (same t (get_or xs (before t xs) (pos 0))) false
        → any_of (same t) (x ∷ xs) ≡ cond (ltb (before t (x ∷ xs)) (suc (length xs))) (same t (get_or (x ∷ xs) (before t (x ∷ xs)) (pos 0))) false
    by true h ih = rw (one-before t x xs h, before-other t x h, leb-suc-suc (suc (before t xs)) (length xs), ih)
    by false h ih = rw (none_before d t x xs o h, lt-ltb 0 (suc (length xs)) (omega arith)) (at_first h (same t x) refl)

-- and what is left without it
pub left_at : (d : ℕ) (t : ℤ) (xs : List ℤ) → in_order d xs ≡ true → before t xs < length xs → same t (get_or xs (before t xs) (pos 0)) ≡ true
    → leave_out (same t) xs ≡ take (before t xs) xs ++ drop (before t xs + 1) xs
unfolding how_many
left_at d t [] o lt s = absurd (not-suc-le-zero lt)
left_at d t (x ∷ xs) o lt s = by (lt_z x t) refl (left_at d t xs (tail-ordered d x xs o)) lt s
  where
    by : (b : Bool) → lt_z x t ≡ b
        → (before t xs < length xs → same t (get_or xs (before t xs) (pos 0)) ≡ true → leave_out (same t) xs ≡ take (before t xs) xs ++ drop (before t xs + 1) xs)
        → before t (x ∷ xs) < suc (length xs) → same t (get_or (x ∷ xs) (before t (x ∷ xs)) (pos 0)) ≡ true
        → leave_out (same t) (x ∷ xs) ≡ take (before t (x ∷ xs)) (x ∷ xs) ++ drop (before t (x ∷ xs) + 1) (x ∷ xs)
    by true h ih lt s =
        let e = one-before t x xs h in
        let k : before t xs < length xs = omega (arith, e) in
        let u : same t (get_or xs (before t xs) (pos 0)) ≡ true = rw e at s in
        rw (e, before-other t x h, suc-add (before t xs) 1, ih k u)
    by false h ih lt s =
        let u : same t x ≡ true = rw (none_before d t x xs o h) at s in
        rw (none_before d t x xs o h, u)
        (leave_out-none (same t) xs (all_map (λ y p. let l = p.later in let g = same_read t x u in past-other t y (omega whole)) xs (rest-past d x xs o)))
