-- The list of the weak inner places: how it grows, and that it has room.
use mathlib.Core.Path.{◌≡◌, refl, sym, ap, ◌∙◌}
use mathlib.Core.Bool.{Bool, true, false, cond}
use mathlib.Core.List.{List, [], ◌∷◌, ◌++◌, map, append_assoc, append-nil}
use Prim.Native.Nat.{ℕ, zero, suc, ◌+◌, ◌-◌, ◌*◌, ◌≤◌, ◌<◌}
use native.Mathlib.Numerals.{add-one}
use native.Mathlib.Omega.{arith}
use lib.Dec.{eqb}
use lib.IntN.{ℤ, pos}
use lib.ListN.{length, get_or, set, take, drop, length-set, length-map, length-append}
use lib.Seq.{take-set-le, take-suc-set, take-suc, length-take-le}
use Rattle.std.specs.List.{list_any}
use Rattle.std.proofs.lemmas.List.{map-append}
use Rattle.laws.proofs.Bools.{or-false}
use Rattle.canny_hysteresis.specs.Places.{weak_from, weak_rows, Added}

-- a place alone, where b holds
abbrev one : Bool → ℕ → List ℕ
one b i = cond b (i ∷ []) []

pub bit-small : (b : Bool) → cond b 1 0 ≤ 1
bit-small true = omega arith
bit-small false = omega arith

-- the weak places of two stretches, one after the other, and of one more place
weak-cons : (b : Bool) (i : ℕ) (xs ys : List ℕ) → cond b (i ∷ (xs ++ ys)) (xs ++ ys) ≡ cond b (i ∷ xs) xs ++ ys
weak-cons true i xs ys = refl
weak-cons false i xs ys = refl

pub weak-append : (i : ℕ) (xs ys : List ℕ) → weak_from i (xs ++ ys) ≡ weak_from i xs ++ weak_from (i + length xs) ys
unfolding weak_from
weak-append i [] ys = let z : i + 0 ≡ i = omega arith in rw z refl
weak-append i (x ∷ xs) ys =
    let z : i + suc (length xs) ≡ i + 1 + length xs = omega arith in
    rw (weak-append (i + 1) xs ys, z) (weak-cons (eqb x 1) i (weak_from (i + 1) xs) (weak_from (i + 1 + length xs) ys))

pub weak-more : (first : ℕ) (xs : List ℕ) (i : ℕ) → i < length xs
    → weak_from first (take (i + 1) xs) ≡ weak_from first (take i xs) ++ one (eqb (get_or xs i 0) 1) (first + i)
unfolding weak_from
weak-more first xs i h =
    rw (add-one i, take-suc xs i 0 h, weak-append first (take i xs) (get_or xs i 0 ∷ []), length-take-le i xs (omega arith)) refl

-- a stretch without a weak class has no place listed
pub none-weak : (i : ℕ) (xs : List ℕ) → list_any (λ c. eqb c 1) xs ≡ false → weak_from i xs ≡ []
unfolding weak_from
none-weak i [] h = refl
none-weak i (x ∷ xs) h = let p = or-false (eqb x 1) (list_any (λ c. eqb c 1) xs) h in rw (p.0, none-weak (i + 1) xs p.1) refl

pub none-left : (i : ℕ) (xs : List ℕ) → length xs ≡ 0 → weak_from i xs ≡ []
unfolding weak_from
none-left i [] h = refl
none-left i (x ∷ xs) h = absurd (omega arith)

-- no more places than classes
pub weak-short : (i : ℕ) (xs : List ℕ) → length (weak_from i xs) ≤ length xs
unfolding weak_from
weak-short i [] = omega arith
weak-short i (x ∷ xs) = go (eqb x 1) (weak-short (i + 1) xs)
  where
    go : (b : Bool) → length (weak_from (i + 1) xs) ≤ length xs → length (cond b (i ∷ weak_from (i + 1) xs) (weak_from (i + 1) xs)) ≤ suc (length xs)
    go true h = omega arith
    go false h = omega arith

-- the list as it begins; one more place written, which counts where b holds; some places and then more
pub added-none : (n : ℕ) (l : List ℤ) (ps : List ℕ) → n ≤ length l → ps ≡ [] → Added n l ps l n
added-none n l ps h e = record { len = refl; room = h; listed = rw e (sym (append-nil (take n l))) }

pub added-more : {n k j : ℕ} {l₀ l m : List ℤ} {ps qs rs : List ℕ} → Added n l₀ ps l k → Added k l qs m j → rs ≡ ps ++ qs → Added n l₀ rs m j
added-more {n} {k} {j} {l₀} {l} {m} {ps} {qs} {rs} A B e = record {
  len = B.len ∙ A.len;
  room = omega (arith, B.room, A.len);
  listed = B.listed ∙ rw (A.listed, e, map-append pos ps qs) (append_assoc (take n l₀) (map pos ps) (map pos qs));
}

pub added-one : {l : List ℤ} {k c : ℕ} {v : ℤ} (b : Bool) (i : ℕ) → k < length l → v ≡ pos i → c ≡ cond b 1 0 → Added k l (one b i) (set l k v) (k + c)
added-one {l} {k} {c} {v} true i h e q = rw (e, q) (record {
  len = length-set l k (pos i);
  room = omega arith;
  listed = rw (add-one k) (take-suc-set l k (pos i) h);
})
added-one {l} {k} {c} {v} false i h e q = let z : k + 0 ≡ k = omega arith in rw (e, q, z) (record {
  len = length-set l k (pos i);
  room = omega arith;
  listed = take-set-le k l k (pos i) (omega arith) ∙ sym (append-nil (take k l));
})

-- how many there are
pub added-count : {n k : ℕ} {l₀ l : List ℤ} {ps : List ℕ} → Added n l₀ ps l k → n ≤ length l₀ → k ≡ n + length ps
added-count {n} {k} {l₀} {l} {ps} A h =
    omega (arith, A.len, A.room, length-take-le k l (omega (arith, A.len, A.room)), ap length A.listed, length-append (take n l₀) (map pos ps), length-take-le n l₀ h, length-map ps pos)

-- one more row
pub rows-more : (s : List ℕ) (w y k : ℕ) → k ≡ w - 2 → weak_rows s w (y + 1) ≡ weak_rows s w y ++ weak_from ((y + 1) * w + 1) (take k (drop ((y + 1) * w + 1) s))
unfolding weak_rows
rows-more s w y k e = rw e (ap (weak_rows s w) (add-one y))

-- rows without an inner place
pub rows-none : (s : List ℕ) (w m : ℕ) → w < 3 → weak_rows s w m ≡ []
unfolding weak_rows
rows-none s w zero h = refl
rows-none s w (suc m) h =
    let z : w - 2 ≡ 0 = omega arith in
    let none = none-left ((m + 1) * w + 1) (take 0 (drop ((m + 1) * w + 1) s)) refl in
    rw (rows-none s w m h, z, none) refl
