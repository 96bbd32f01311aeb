-- What the library's walks over stamps find: whether they are in order, where a stamp stands among them, which is nearest.
use Rattle.std.proofs.Common.{None, Option, Some, Ordering, Less, Equal, Greater, add-one, nat_cmp, int_cmp, is_lt}
use Rattle.std.specs.Fn.{Called, CalledAt, ComputesKey}
use Rattle.std.specs.Iterator.{PicksMinByKey, KeyTurn}
use Rattle.std.specs.List.{FoldsTo, HoldsAt, IsAllAdjacentAnswer}
use Rattle.std.specs.List.Sorted.{IsPartitionedBy, IsPartitionPoint, IsNonDecreasingBy}
use Rattle.std.specs.Ordering.{min_by_ordering, MatchOrdering, ordering_index}
use Rattle.std.proofs.lemmas.Cmp.{int_cmp_total}
use Rattle.std.proofs.lemmas.Iterator.{YieldsList, items_from_drains}
use Rattle.std.proofs.lemmas.List.Sorted.{IsPartitionPoint-from_clause, searchable_from_sorted}
use Prim.Native.Nat.{ℕ, zero, suc, ◌+◌, ◌<◌, ◌≤◌}
use native.Mathlib.Omega.{arith}
use native.Mathlib.Decide.{dec_lt}
use denote.Param.Members.{Mut}
use denote.Ref.{Bor}
use mathlib.Core.Path.{◌≡◌, refl, sym, ap, ◌∙◌, subst}
use mathlib.Core.Bool.{Bool, true, false, cond}
use mathlib.Core.List.{List, [], ◌∷◌, map}
use borrow.Author.Tests.{lt-ltb, le-ltb, ltb-true, ltb-false, eqb-true, eqb-false}
use lib.Dec.{ltb, eqb}
use lib.IntN.{ℤ, pos}
use lib.ListN.{length, get_or}
use lib.Signed.{le_z, lt_z}
use Rattle.timestamp.specs.Stamps.{distance}
use Rattle.timestamp.specs.declared.Timestamp.{Timestamp}
use Rattle.laws.proofs.All.{all-at}
use Rattle.laws.proofs.Bools.{and-true}
use Rattle.laws.proofs.Whole.{whole, eq-make, lt-lt_z, le-lt_z, le-le_z}
use Rattle.cut_list.specs.Record.{follows, in_order}
use Rattle.cut_list.specs.Change.{same, any_of}
use Rattle.cut_list.specs.Find.{how_many, clip_of, nearest_from, nearest_of}
use Rattle.cut_list.proofs.Tests.{Past, past-other}
use Rattle.cut_list.proofs.Order.{before, tail-ordered, rest-past, stands}

-- ---- in order

-- stamps in order: each follows the one before it
in_order-at : (d : ℕ) (xs : List ℤ) (i : ℕ) → in_order d xs ≡ true → suc i < length xs → follows d (get_or xs i (pos 0)) (get_or xs (suc i) (pos 0)) ≡ true
unfolding in_order
in_order-at d [] i e h = absurd (omega arith)
in_order-at d (x ∷ []) i e h = absurd (omega arith)
in_order-at d (x ∷ y ∷ ys) zero e h = (and-true (follows d x y) (in_order d (y ∷ ys)) e).0
in_order-at d (x ∷ y ∷ ys) (suc i) e h = in_order-at d (y ∷ ys) i (and-true (follows d x y) (in_order d (y ∷ ys)) e).1 (omega arith)

-- and if each does, they are in order
in_order-all : (d : ℕ) (xs : List ℤ) → ((i : ℕ) → suc i < length xs → follows d (get_or xs i (pos 0)) (get_or xs (suc i) (pos 0)) ≡ true) → in_order d xs ≡ true
unfolding in_order
in_order-all d [] f = refl
in_order-all d (x ∷ []) f = refl
in_order-all d (x ∷ y ∷ ys) f = rw (f 0 (omega arith), in_order-all d (y ∷ ys) (λ i h. f (suc i) (omega arith)))

-- the answer of `is_sorted_by`
pub in_order-is : (d : ℕ) (xs : List ℤ) (r : Bool) → IsAllAdjacentAnswer (λ x y b. b ≡ follows d x y) xs r → r ≡ in_order d xs
in_order-is d xs true a = sym (in_order-all d xs (λ i h. rw (← add-one i) (sym (a i (pos 0) (omega arith)))))
in_order-is d xs false a = by (in_order d xs) refl
  where
    by : (b : Bool) → in_order d xs ≡ b → false ≡ b
    by true e = a.2 (pos 0) ∙ rw (add-one a.0) (in_order-at d xs a.0 e (omega (arith, a.1)))
    by false e = refl

-- ---- where a stamp stands

-- of stamps in order, a later one may follow an earlier one
past-at : (d : ℕ) (xs : List ℤ) (i j : ℕ) (z : ℤ) → in_order d xs ≡ true → i < j → j < length xs → Past d (get_or xs i z) (get_or xs j z)
past-at d [] i j z o h k = absurd (omega arith)
past-at d (x ∷ xs) i zero z o h k = absurd (omega arith)
past-at d (x ∷ xs) zero (suc j) z o h k = all-at (Past d x) z xs j (omega arith) (rest-past d x xs o)
past-at d (x ∷ xs) (suc i) (suc j) z o h k = past-at d xs i j z (tail-ordered d x xs o) (omega arith) (omega arith)

-- a test that holds of each stamp before one of which it holds
parted : (d : ℕ) (p : ℤ → Bool) (xs : List ℤ) → in_order d xs ≡ true → ((x y : ℤ) → Past d x y → p y ≡ true → p x ≡ true) → IsPartitionedBy p xs
parted d p xs o down i j z h k e = by (dec_lt i j)
  where
    by : Dec (i < j) → p (get_or xs i z) ≡ true
    by (yes lt) = down (get_or xs i z) (get_or xs j z) (past-at d xs i j z o lt k) e
    by (no ge) = let same : i ≡ j = omega (arith, ge) in rw same e

-- at the place where the test begins to fail, as many stamps stand before it as pass it
point-counts : (p : ℤ → Bool) (xs : List ℤ) (i : ℕ) → i ≤ length xs → IsPartitionPoint (λ y. p y ≡ true) (λ y. p y ≡ false) xs i → i ≡ how_many p xs
unfolding how_many
point-counts p [] i h a = omega arith
point-counts p (x ∷ xs) zero h a =
    let e = point-counts p xs 0 (omega arith) ((λ k z l m. absurd (omega arith)), (λ k z l m. a.1 (suc k) z (omega arith) (omega arith))) in
    let f : p x ≡ false = a.1 0 x (omega arith) (omega arith) in
    rw f (omega (arith, e))
point-counts p (x ∷ xs) (suc i) h a =
    let e = point-counts p xs i (omega arith) ((λ k z l m. a.0 (suc k) z (omega arith) (omega arith)), (λ k z l m. a.1 (suc k) z (omega arith) (omega arith))) in
    let f : p x ≡ true = a.0 0 x (omega arith) (omega arith) in
    rw f (omega (arith, e))

-- the place that `partition_point` finds at a test
module _ {F : Type 0} {g : Mut F (Bor ℤ × Unit {0}) Bool} {f : F} (d : ℕ) (t : ℤ) (xs : List ℤ) (o : in_order d xs ≡ true) (i : ℕ) (h : i ≤ length xs)
    (clause : (q : ℤ → Bool) → ComputesKey g q f → IsPartitionedBy q xs → IsPartitionPoint (λ y. q y ≡ true) (λ y. q y ≡ false) xs i) where
  pub before-is : ((a : Bor ℤ × Unit {0}) (r : Bool) (f' : F) → Called g f a r f' → (r ≡ lt_z a.0.now t) × (f' ≡ f)) → i ≡ before t xs
  before-is calls =
      point-counts (λ x. lt_z x t) xs i h
      (IsPartitionPoint-from_clause (λ x. lt_z x t) xs i clause (parted d (λ x. lt_z x t) xs o (λ x y p e. let l = p.later in lt-lt_z x t (omega whole))) calls)

  pub clip-is : ((a : Bor ℤ × Unit {0}) (r : Bool) (f' : F) → Called g f a r f' → (r ≡ le_z a.0.now t) × (f' ≡ f)) → i ≡ clip_of t xs
  unfolding clip_of
  clip-is calls =
      point-counts (λ x. le_z x t) xs i h
      (IsPartitionPoint-from_clause (λ x. le_z x t) xs i clause (parted d (λ x. le_z x t) xs o (λ x y p e. let l = p.later in le-le_z x t (omega whole))) calls)

-- ---- the search for one

module _ (x t : ℤ) where
  by_cmp : (p q : Bool) → lt_z x t ≡ p → lt_z t x ≡ q → (w : Ordering) → cond p Less (cond q Greater Equal) ≡ w
      → MatchOrdering w (lt_z x t ≡ true) (x ≡ t) (lt_z t x ≡ true)
  by_cmp true q a b Less e = a
  by_cmp true q a b Equal e = cc
  by_cmp true q a b Greater e = cc
  by_cmp false true a b Less e = cc
  by_cmp false true a b Equal e = cc
  by_cmp false true a b Greater e = b
  by_cmp false false a b Less e = cc
  by_cmp false false a b Equal e = eq-make (omega whole)
  by_cmp false false a b Greater e = cc

  -- what the answer of a comparison says
  compared : (w : Ordering) → int_cmp x t ≡ w → MatchOrdering w (lt_z x t ≡ true) (x ≡ t) (lt_z t x ≡ true)
  compared w e = by_cmp (lt_z x t) (lt_z t x) refl refl w e

module _ (d : ℕ) (t : ℤ) (xs : List ℤ) (o : in_order d xs ≡ true) where
  -- a stamp that equals t stands where t stands
  pub found-at : (i : ℕ) → i < length xs → HoldsAt (λ y. int_cmp y t ≡ Equal) xs i → (i ≡ before t xs) × (get_or xs i (pos 0) ≡ t)
  found-at i h e = (
    point-counts (λ x. lt_z x t) xs i (omega arith) (
      (λ k z l m. let p = (past-at d xs k i z o m h).later in let q = compared (get_or xs i z) t Equal (e z) in lt-lt_z (get_or xs k z) t (rw (← q) p)),
      (λ k z l m. not-before k z l m (dec_lt i k)),
    ),
    compared (get_or xs i (pos 0)) t Equal (e (pos 0)),
  )
    where
      not-before : (k : ℕ) (z : ℤ) → i ≤ k → k < length xs → Dec (i < k) → lt_z (get_or xs k z) t ≡ false
      not-before k z l m (yes lt) = let p = (past-at d xs i k z o lt m).later in let q = compared (get_or xs i z) t Equal (e z) in le-lt_z (get_or xs k z) t (omega (arith, rw q at p))
      not-before k z l m (no ge) = let s : k ≡ i = omega (arith, ge) in let q = compared (get_or xs i z) t Equal (e z) in rw (s, q) (le-lt_z t t (omega arith))

  not-less : (x y : ℤ) → Past d x y → is_lt (int_cmp y x) ≡ false
  not-less x y p = let l = p.later in rw (le-lt_z y x (omega arith), lt-lt_z x y l)

  -- where the search finds none, none is the same as t
  pub absent : (i : ℕ) → i ≤ length xs → (IsNonDecreasingBy (λ y. ordering_index (int_cmp y t)) xs → IsPartitionPoint (λ y. int_cmp y t ≡ Less) (λ y. int_cmp y t ≡ Greater) xs i)
      → any_of (same t) xs ≡ false
  absent i h clause = stands d t xs o ∙ rw (← place) (by (ltb i (length xs)) refl)
    where
      point : IsPartitionPoint (λ y. int_cmp y t ≡ Less) (λ y. int_cmp y t ≡ Greater) xs i
      point = clause (searchable_from_sorted int_cmp_total (λ x. x) xs t (λ k z l m. not-less (get_or xs k z) (get_or xs (k + 1) z) (past-at d xs k (k + 1) z o (omega arith) m)))

      later : (k : ℕ) (z : ℤ) → i ≤ k → k < length xs → lt_z t (get_or xs k z) ≡ true
      later k z l m = compared (get_or xs k z) t Greater (point.1 k z l m)

      place : i ≡ before t xs
      place =
          point-counts (λ x. lt_z x t) xs i h
          ((λ k z l m. compared (get_or xs k z) t Less (point.0 k z l m)), (λ k z l m. le-lt_z (get_or xs k z) t (omega (whole, later k z l m))))

      by : (b : Bool) → ltb i (length xs) ≡ b → cond b (same t (get_or xs i (pos 0))) false ≡ false
      by true e = past-other t (get_or xs i (pos 0)) (omega (whole, later i (pos 0) (omega arith) (ltb-true i (length xs) e)))
      by false e = refl

-- ---- nearest

-- of a stamp and the nearest so far, the one that is nearest
abbrev pub nearer_of : (t best x : ℤ) → ℤ
nearer_of t best x = cond (ltb (distance t x) (distance t best)) x best

lesser : (m n : ℕ) (x y : Timestamp) → (min_by_ordering (nat_cmp m n) x y).micros ≡ cond (ltb n m) y.micros x.micros
lesser m n x y = by (ltb m n) refl (eqb m n) refl
  where
    by : (p : Bool) → ltb m n ≡ p → (q : Bool) → eqb m n ≡ q → (min_by_ordering (cond p Less (cond q Equal Greater)) x y).micros ≡ cond (ltb n m) y.micros x.micros
    by true a q b = rw (le-ltb n m (omega (arith, ltb-true m n a)))
    by false a true b = rw (le-ltb n m (omega (arith, eqb-true m n b)))
    by false a false b = rw (lt-ltb n m (omega (arith, ltb-false m n a, eqb-false m n b)))

module _ {F : Type 0} (g : Mut F (Bor Timestamp × Unit {0}) ℕ) {f : F} (t : ℤ)
    (calls : (x : Timestamp) (k : ℕ) (q : F) → CalledAt g f x k q → (q ≡ f) × (k ≡ distance t x.micros)) where
  -- the best key is that of the best stamp
  keyed : (w : Ordering) {m n : ℕ} (x y : Timestamp) → m ≡ distance t x.micros → n ≡ distance t y.micros
      → min_by_ordering w m n ≡ distance t (min_by_ordering w x y).micros
  keyed Less x y a b = a
  keyed Equal x y a b = a
  keyed Greater x y a b = b

  turns : (xs : List Timestamp) (best : Timestamp) (p q : F × ℕ) (y : Timestamp) → p.0 ≡ f → p.1 ≡ distance t best.micros
      → FoldsTo {P = (F × ℕ) × Timestamp} (KeyTurn min_by_ordering min_by_ordering g nat_cmp) (p, best) xs (q, y)
      → y.micros ≡ nearest_from t best.micros (map (λ x. x.micros) xs)
  unfolding nearest_from
  turns [] best p q y a b h = ap (λ (w : (F × ℕ) × Timestamp). w.1.micros) (sym h)
  turns (x ∷ xs) best p q y a b h =
      let j = h.0 in
      let k = h.1.0 in
      let call = calls x k j.0.0 (subst (λ (w : F). CalledAt g w x k j.0.0) a h.1.2) in
      let key : j.0.1 ≡ distance t j.1.micros = h.1.4 ∙ keyed h.1.1 best x b call.1 ∙ ap (λ (z : Timestamp). distance t z.micros) (sym h.1.5) in
      let next : j.1.micros ≡ nearer_of t best.micros x.micros =
      ap (λ (z : Timestamp). z.micros) h.1.5 ∙ rw (← h.1.3, b, call.1) (lesser (distance t best.micros) (distance t x.micros) best x) in
      turns xs j.1 j.0 q y call.0 key h.2 ∙ ap (λ (z : ℤ). nearest_from t z (map (λ x. x.micros) xs)) next

  -- the answer of `min_by_key`
  pub nearest-is : {S : Type 0} {steps : S → Option Timestamp → S → Type 0} {s : S} (zs : List ℤ) (r : Option Timestamp)
      → PicksMinByKey steps g nat_cmp s f r → YieldsList steps (λ x. x.micros) s zs → r ≡ nearest_of t zs
  unfolding nearest_of
  nearest-is zs None h e = let m : [] ≡ zs = items_from_drains [] (h.1.0, h.1.1, λ _. (h.0, h.1.2)) e in rw (← m)
  nearest-is zs (Some y) h e =
      let call = calls h.0 h.2 h.3 h.6 in
      let m : map (λ x. x.micros) (h.0 ∷ h.1) ≡ zs = items_from_drains (h.0 ∷ h.1) (h.5.1.0, h.5.1.1, λ _. (h.5.0, h.5.1.2)) e in
      rw (← m) (ap (λ (z : ℤ). Some (record { micros = z })) (turns h.1 h.0 (h.3, h.2) h.4 y call.0 call.1 h.7))
