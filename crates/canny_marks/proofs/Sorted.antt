-- What stands at each place of the sorted list, by counts, and so the median by counts.
use mathlib.Core.Path.{◌≡◌, refl}
use mathlib.Core.Bool.{Bool, true, false, cond}
use mathlib.Core.List.{List, [], ◌∷◌}
use Prim.Native.Nat.{ℕ, zero, suc, ◌+◌, ◌/◌, ◌≤◌, ◌<◌}
use native.Mathlib.Decide.{dec_lt}
use native.Mathlib.Omega.{arith}
use lib.Dec.{leb, ltb}
use lib.ListN.{length, get_or}
use borrow.Author.Tests.{leb-true, leb-false, ltb-true, ltb-false, le-ltb}
use Rattle.canny_marks.specs.Median.{count, insert, sort, median_of}
use Rattle.canny_marks.proofs.Counts.{below, below_all, count-sort, length-sort, count-length}

-- the elements rise, from v on
pub data Sorted : ℕ → List ℕ → Type 0 where
  none : {v : ℕ} → Sorted v []
  more : {v b : ℕ} {bs : List ℕ} → v ≤ b → Sorted b bs → Sorted v (b ∷ bs)

insert-sorted : {v : ℕ} {l : List ℕ} (b : ℕ) → v ≤ b → Sorted v l → Sorted v (insert b l)
unfolding insert
insert-sorted b h none = more h none
insert-sorted {v} {l = c ∷ cs} b h (more k r) = go (leb b c) refl (λ q. insert-sorted b q r)
  where
    go : (t : Bool) → leb b c ≡ t → (c ≤ b → Sorted c (insert b cs)) → Sorted v (cond t (b ∷ (c ∷ cs)) (c ∷ insert b cs))
    go true e ih = more h (more (leb-true b c e) r)
    go false e ih = more k (ih (omega (arith, leb-false b c e)))

pub sort_sorted : (l : List ℕ) → Sorted 0 (sort l)
unfolding sort
sort_sorted [] = none
sort_sorted (b ∷ bs) = insert-sorted b (omega arith) (sort_sorted bs)

-- nothing is below v in what rises from v on
none_below : (v : ℕ) {u : ℕ} {s : List ℕ} → v ≤ u → Sorted u s → below v s ≡ 0
unfolding count
none_below v h none = refl
none_below v h (more {b = b} k r) = rw (le-ltb b v (omega arith)) (omega (arith, none_below v (omega arith) r))

-- place k has an element below v exactly where more than k elements are below v
pub place-below : (v d k : ℕ) {u : ℕ} {s : List ℕ} → Sorted u s → k < below v s → get_or s k d < v
unfolding count
place-below v d k none h = absurd (omega arith)
place-below v d k (more {b = b} {bs = bs} p r) h = go k (ltb b v) refl h (λ j q. place-below v d j r q)
  where
    go : (k : ℕ) (t : Bool) → ltb b v ≡ t → k < cond t 1 0 + below v bs → ((j : ℕ) → j < below v bs → get_or bs j d < v) → get_or (b ∷ bs) k d < v
    go zero true e h ih = ltb-true b v e
    go (suc k) true e h ih = ih k (omega arith)
    go k false e h ih = absurd (omega (arith, none_below v (ltb-false b v e) r))

pub place-from : (v d k : ℕ) {u : ℕ} {s : List ℕ} → Sorted u s → below v s ≤ k → k < length s → v ≤ get_or s k d
unfolding count
place-from v d k none h l = absurd (omega arith)
place-from v d k (more {b = b} {bs = bs} p r) h l = go k (ltb b v) refl h l (λ j q m. place-from v d j r q m)
  where
    go : (k : ℕ) (t : Bool) → ltb b v ≡ t → cond t 1 0 + below v bs ≤ k → k < suc (length bs)
        → ((j : ℕ) → below v bs ≤ j → j < length bs → v ≤ get_or bs j d) → v ≤ get_or (b ∷ bs) k d
    go zero true e h l ih = absurd (omega arith)
    go (suc k) true e h l ih = ih k (omega arith) (omega arith)
    go zero false e h l ih = ltb-false b v e
    go (suc k) false e h l ih = ih k (omega (arith, none_below v (ltb-false b v e) r)) (omega arith)

-- the median is v where at most half of the elements are below v and more than half below v + 1
pub median-is : (l : List ℕ) (v : ℕ) → below v l ≤ length l / 2 → length l / 2 < below (v + 1) l → v ≡ median_of l
unfolding median_of
median-is l v h k =
    let s = sort_sorted l in
    let a : v ≤ get_or (sort l) (length l / 2) 255 =
    place-from v 255 (length l / 2) s
    (omega (arith, count-sort (λ b. ltb b v) l))
    (omega (arith, length-sort l, count-length (λ b. ltb b (v + 1)) l)) in
    let b : get_or (sort l) (length l / 2) 255 < v + 1 =
    place-below (v + 1) 255 (length l / 2) s (omega (arith, count-sort (λ b. ltb b (v + 1)) l)) in
    omega arith

pub median-none : (l : List ℕ) → length l ≡ 0 → 255 ≡ median_of l
unfolding median_of sort
median-none [] e = refl
median-none (b ∷ bs) e = absurd (omega arith)

-- the same over counts: the median is the least v with more than half of the elements at most v, and there is one where the list is not empty
pub median-least : (l : List ℕ) (v : ℕ) → length l / 2 < below (v + 1) l → median_of l ≤ v
unfolding median_of
median-least l v h = omega (arith, place-below (v + 1) 255 (length l / 2) (sort_sorted l) (omega (arith, count-sort (λ b. ltb b (v + 1)) l)))

pub median-reached : (l : List ℕ) → 0 < length l → length l / 2 < below (median_of l + 1) l
unfolding median_of
median-reached l h = go (dec_lt (length l / 2) (below (median_of l + 1) l))
  where
    go : Dec (length l / 2 < below (median_of l + 1) l) → length l / 2 < below (median_of l + 1) l
    go (yes k) = k
    go (no k) =
        absurd
        (omega (
          arith,
          place-from (median_of l + 1) 255 (length l / 2) (sort_sorted l)
              (omega (arith, k, count-sort (λ b. ltb b (median_of l + 1)) l))
              (omega (arith, length-sort l)),
        ))

-- the median of bytes is a byte
pub median_below : (l : List ℕ) → ((i : ℕ) → i < length l → get_or l i 0 < 256) → median_of l ≤ 255
median_below l bytes = go (dec_lt 0 (length l))
  where
    go : Dec (0 < length l) → median_of l ≤ 255
    go (yes h) = median-least l 255 (omega (arith, h, below_all 256 l bytes))
    go (no h) = omega (arith, median-none l (omega (arith, h)))
