-- Counts of the elements that a test holds of.
use mathlib.Core.Path.{◌≡◌, refl, sym, ap, ◌∙◌}
use mathlib.Core.Bool.{Bool, true, false, cond}
use mathlib.Core.List.{List, [], ◌∷◌, ◌++◌}
use native.Mathlib.Nat.{zero-mul}
use Prim.Native.Nat.{ℕ, zero, suc, ◌+◌, ◌*◌, ◌≤◌, ◌<◌}
use native.Mathlib.Numerals.{add-one}
use native.Mathlib.Omega.{arith}
use lib.Dec.{leb, ltb, eqb}
use native.Mathlib.Decide.{ℕ_discrete}
use lib.ListN.{length, take, drop, get_or, set, replicate, length-set, length-replicate, length-take, length-drop, get_or-replicate}
use lib.Seq.{take-suc, take-add, take-length, length-take-le, get_or-drop, get_or-set_same, get_or-set_other}
use borrow.Author.Tests.{ltb-true, ltb-false, eqb-true, eqb-false, lt-ltb, le-ltb, eq-eqb, ne_eqb}
use Rattle.laws.specs.Lists.{tabulate}
use Rattle.std.specs.List.{concat, sum}
use Rattle.std.specs.Simd.{first_chunks}
use Rattle.std.proofs.lemmas.List.{append_assoc}
use Rattle.std.proofs.lemmas.List.Folds.{concat-append}
use Rattle.std.proofs.lemmas.List.Sums.{sum_by-set, get_or-le-sum_by}
use Rattle.laws.proofs.Tab.{is-tabulate, get_d_tabulate}
use Rattle.canny_marks.specs.Median.{count, insert, sort}

-- the bytes below v
abbrev pub below : ℕ → List ℕ → ℕ
below v l = count (λ b. ltb b v) l

pub count-append : (p : ℕ → Bool) (xs ys : List ℕ) → count p (xs ++ ys) ≡ count p xs + count p ys
unfolding count
count-append p [] ys = omega arith
count-append p (x ∷ xs) ys = omega (arith, count-append p xs ys)

-- one more element
pub count-more : (p : ℕ → Bool) (s : List ℕ) (i : ℕ) → i < length s → count p (take (i + 1) s) ≡ count p (take i s) + cond (p (get_or s i 0)) 1 0
unfolding count
count-more p s i h = rw (add-one i, take-suc s i 0 h, count-append) (omega arith)

pub count-whole : (p : ℕ → Bool) (s : List ℕ) (i : ℕ) → i ≡ length s → count p (take i s) ≡ count p s
count-whole p s i e = rw (e, take-length s)

one_at_most : (t : Bool) → cond t 1 0 ≤ 1
one_at_most true = omega arith
one_at_most false = omega arith

nothing : (t : Bool) → cond {A = ℕ} t 0 0 ≡ 0
nothing true = refl
nothing false = refl

pub count-length : (p : ℕ → Bool) (l : List ℕ) → count p l ≤ length l
unfolding count
count-length p [] = omega arith
count-length p (b ∷ bs) = omega (arith, count-length p bs, one_at_most (p b))

-- sorting moves elements and keeps every count, the length too
count-insert : (p : ℕ → Bool) (v : ℕ) (l : List ℕ) → count p (insert v l) ≡ cond (p v) 1 0 + count p l
unfolding count insert
count-insert p v [] = refl
count-insert p v (b ∷ bs) = go (leb v b) (count-insert p v bs)
  where
    go : (t : Bool) → count p (insert v bs) ≡ cond (p v) 1 0 + count p bs
        → count p (cond t (v ∷ (b ∷ bs)) (b ∷ insert v bs)) ≡ cond (p v) 1 0 + (cond (p b) 1 0 + count p bs)
    go true ih = refl
    go false ih = omega (arith, ih)

pub count-sort : (p : ℕ → Bool) (l : List ℕ) → count p (sort l) ≡ count p l
unfolding count sort
count-sort p [] = refl
count-sort p (b ∷ bs) = count-insert p b (sort bs) ∙ ap (λ (n : ℕ). cond (p b) 1 0 + n) (count-sort p bs)

length-insert : (v : ℕ) (l : List ℕ) → length (insert v l) ≡ suc (length l)
unfolding insert
length-insert v [] = refl
length-insert v (b ∷ bs) = go (leb v b) (length-insert v bs)
  where
    go : (t : Bool) → length (insert v bs) ≡ suc (length bs) → length (cond t (v ∷ (b ∷ bs)) (b ∷ insert v bs)) ≡ suc (suc (length bs))
    go true ih = refl
    go false ih = ap suc ih

pub length-sort : (l : List ℕ) → length (sort l) ≡ length l
unfolding sort
length-sort [] = refl
length-sort (b ∷ bs) = length-insert b (sort bs) ∙ ap suc (length-sort bs)

-- below v + 1 is below v, or v itself
one-next : (b v : ℕ) (s t : Bool) → ltb b v ≡ s → eqb b v ≡ t → cond (ltb b (v + 1)) 1 0 ≡ cond s 1 0 + cond t 1 0
one-next b v true true p q = absurd (omega (arith, ltb-true b v p, eqb-true b v q))
one-next b v true false p q = rw (lt-ltb b (v + 1) (omega (arith, ltb-true b v p))) refl
one-next b v false true p q = rw (lt-ltb b (v + 1) (omega (arith, eqb-true b v q))) refl
one-next b v false false p q = rw (le-ltb b (v + 1) (omega (arith, ltb-false b v p, eqb-false b v q))) refl

pub below_next : (v : ℕ) (l : List ℕ) → below (v + 1) l ≡ below v l + count (λ b. eqb b v) l
unfolding count
below_next v [] = refl
below_next v (b ∷ bs) = omega (arith, one-next b v (ltb b v) (eqb b v) refl refl, below_next v bs)

pub below-zero : (l : List ℕ) → below 0 l ≡ 0
unfolding count
below-zero [] = refl
below-zero (b ∷ bs) = rw (le-ltb b 0 (omega arith)) (omega (arith, below-zero bs))

-- all are below m
pub below_all : (m : ℕ) (l : List ℕ) → ((i : ℕ) → i < length l → get_or l i 0 < m) → below m l ≡ length l
unfolding count
below_all m [] h = refl
below_all m (b ∷ bs) h = rw (lt-ltb b m (h 0 (omega arith))) (omega (arith, below_all m bs (λ i k. h (suc i) (omega arith))))

-- a histogram of the first i elements
pub record Tallied (s : List ℕ) (i : ℕ) (hist : List ℕ) : Type 0 where
  pub len : length hist ≡ 256
  pub at : (v : ℕ) → v < 256 → get_or hist v 0 ≡ count (λ b. eqb b v) (take i s)

-- f of an element, after element b changed by k in f
pub changed : {A : Type 0} (f : A → ℕ) (l : List A) (b k v : ℕ) (x d : A) → b < length l → f x ≡ f (get_or l b d) + k
    → f (get_or (set l b x) v d) ≡ f (get_or l v d) + cond (eqb b v) k 0
changed {A} f l b k v x d h e = go (ℕ_discrete v b)
  where
    go : Dec (v ≡ b) → f (get_or (set l b x) v d) ≡ f (get_or l v d) + cond (eqb b v) k 0
    go (yes p) = rw (p, get_or-set_same l b x d h, eq-eqb b b refl) e
    go (no p) = rw (get_or-set_other l b v x d p, ne_eqb b v (λ q. p (sym q))) (omega arith)

-- one more element, which stands at place j after the first m
pub tallied-more : {s hist : List ℕ} {b : ℕ} (m j : ℕ) (rest : List ℕ) → Tallied s (m + j) hist → rest ≡ drop m s → j < length rest → b ≡ get_or rest j 0 → b < 256
    → Tallied s (m + (j + 1)) (set hist b (get_or hist b 0 + 1))
tallied-more {s} {hist} {b} m j rest F after h e k =
    let next : m + (j + 1) ≡ m + j + 1 = omega arith in
    let inside : m + j < length s = omega (arith, ap length after, length-drop m s) in
    let here : b ≡ get_or s (m + j) 0 = e ∙ rw after (get_or-drop m s j 0) in
    let one : (v : ℕ) → get_or (set hist b (get_or hist b 0 + 1)) v 0 ≡ get_or hist v 0 + cond (eqb b v) 1 0 =
    λ v. changed (λ (n : ℕ). n) hist b 1 v _ 0 (omega (arith, F.len)) refl in
    record {
      len = length-set hist b (get_or hist b 0 + 1) ∙ F.len;
      at = λ v q. rw (next, one v, count-more (λ x. eqb x v) s (m + j) inside, ← here) (omega (arith, F.at v q));
    }

-- an entry is at most the number of elements
pub tallied-small : {s : List ℕ} {i : ℕ} {hist : List ℕ} → Tallied s i hist → i ≤ length s → (v : ℕ) → v < 256 → get_or hist v 0 ≤ i
tallied-small {s} {i} {hist} F h v k = omega (arith, F.at v k, count-length (λ b. eqb b v) (take i s), length-take-le i s h)

pub tallied-all : {s : List ℕ} {i : ℕ} {hist : List ℕ} → Tallied s i hist → i ≡ length s → hist ≡ tabulate 256 (λ v. count (λ b. eqb b v) s)
tallied-all {s} {i} {hist} F e =
    is-tabulate 0 hist 256 (λ v. count (λ b. eqb b v) s) F.len (λ v h. F.at v h ∙ count-whole (λ b. eqb b v) s i e)

-- count j of b is one more
abbrev raised : List (List ℕ) → ℕ → ℕ → List (List ℕ)
raised counts b j = set counts b (set (get_or counts b []) j (get_or (get_or counts b []) j 0 + 1))

-- four counts of each value, which added are its count in s, and at most n
pub record InFour (s : List ℕ) (n : ℕ) (counts : List (List ℕ)) : Type 0 where
  pub len : length counts ≡ 256
  pub each : (v : ℕ) → v < 256 → length (get_or counts v []) ≡ 4
  pub small : (v : ℕ) → v < 256 → sum (get_or counts v []) ≤ n
  pub at : (v : ℕ) → v < 256 → sum (get_or counts v []) ≡ count (λ b. eqb b v) s

pub four-none : {s : List ℕ} → s ≡ [] → InFour s 0 (replicate 256 (replicate 4 0))
unfolding count
four-none e =
    let zero-at : (v : ℕ) → v < 256 → get_or (replicate 256 (replicate 4 0)) v [] ≡ replicate 4 0 = λ v h. get_or-replicate {A = List ℕ} 256 v (replicate 4 0) [] h in
    record {
      len = length-replicate {A = List ℕ} 256 (replicate 4 0);
      each = λ v h. rw (zero-at v h) refl;
      small = λ v h. rw (zero-at v h) (omega arith);
      at = λ v h. rw (zero-at v h, e) refl;
    }

-- one more element, counted at place j
pub four-one : {s : List ℕ} {n : ℕ} {counts : List (List ℕ)} (b j : ℕ) → InFour s n counts → b < 256 → j < 4 → InFour (s ++ (b ∷ [])) (n + 1) (raised counts b j)
unfolding count
four-one {s} {n} {counts} b j F h k =
    let cell = get_or counts b [] in
    let more = set cell j (get_or cell j 0 + 1) in
    let inside : b < length counts = omega (arith, F.len) in
    let up : sum more ≡ sum cell + 1 = omega (arith, sum_by-set (λ (x : ℕ). x) cell j (get_or cell j 0 + 1) 0 (omega (arith, F.each b h))) in
    let one : (v : ℕ) → sum (get_or (set counts b more) v []) ≡ sum (get_or counts v []) + cond (eqb b v) 1 0 = λ v. changed sum counts b 1 v more [] inside up in
    let same : length more ≡ length cell + 0 = omega (arith, length-set cell j (get_or cell j 0 + 1)) in
    record {
      len = length-set counts b more ∙ F.len;
      each = λ v m. omega (arith, F.each v m, changed length counts b 0 v more [] inside same, nothing (eqb b v));
      small = λ v m. omega (arith, one v, F.small v m, one_at_most (eqb b v));
      at = λ v m. rw (one v, count-append (λ x. eqb x v) s (b ∷ [])) (omega (arith, F.at v m));
    }

-- one count of a value is at most n
pub four-small : {s : List ℕ} {n : ℕ} {counts : List (List ℕ)} → InFour s n counts → (b j : ℕ) → b < 256 → j < 4 → get_or (get_or counts b []) j 0 ≤ n
four-small {s} {n} {counts} F b j h k = omega (arith, F.small b h, get_or-le-sum_by (λ (x : ℕ). x) (get_or counts b []) j 0 (omega (arith, F.each b h)))

-- a group by its bytes
group : (g : List ℕ) → length g ≡ 4 → g ≡ get_or g 0 0 ∷ (get_or g 1 0 ∷ (get_or g 2 0 ∷ (get_or g 3 0 ∷ [])))
group [] e = absurd (omega arith)
group (a ∷ []) e = absurd (omega arith)
group (a ∷ (b ∷ [])) e = absurd (omega arith)
group (a ∷ (b ∷ (c ∷ []))) e = absurd (omega arith)
group (a ∷ (b ∷ (c ∷ (d ∷ [])))) e = refl
group (a ∷ (b ∷ (c ∷ (d ∷ (x ∷ xs))))) e = absurd (omega arith)

-- one more group
pub four-more : {counts : List (List ℕ)} (fours : List (List ℕ)) (i a b c d : ℕ) → InFour (concat (take i fours)) (4 * i) counts → i < length fours → length (get_or fours i []) ≡ 4
    → a ≡ get_or (get_or fours i []) 0 0 → b ≡ get_or (get_or fours i []) 1 0 → c ≡ get_or (get_or fours i []) 2 0 → d ≡ get_or (get_or fours i []) 3 0
    → a < 256 → b < 256 → c < 256 → d < 256 → InFour (concat (take (i + 1) fours)) (4 * (i + 1)) (raised (raised (raised (raised counts a 0) b 1) c 2) d 3)
four-more {counts} fours i a b c d F h size ea eb ec ed ka kb kc kd =
    let whole : concat (take (i + 1) fours) ≡ concat (take i fours) ++ (a ∷ []) ++ (b ∷ []) ++ (c ∷ []) ++ (d ∷ []) =
    rw (add-one i, take-suc fours i [] h, concat-append, group (get_or fours i []) size, ea, eb, ec, ed) (simp append_assoc refl) in
    let n : 4 * (i + 1) ≡ 4 * i + 1 + 1 + 1 + 1 = omega arith in
    rw (whole, n) (four-one d 3 (four-one c 2 (four-one b 1 (four-one a 0 F ka (omega arith)) kb (omega arith)) kc (omega arith)) kd (omega arith))

-- the k groups of n that a list begins with
pub groups : (n k : ℕ) (s : List ℕ) → concat (first_chunks n k s) ≡ take (k * n) s
groups n zero s = rw (zero-mul n) refl
groups n (suc k) s = let e : suc k * n ≡ n + k * n = omega arith in rw (groups n k (drop n s), e, take-add n (k * n) s) refl

-- their counts are those of as many elements
count-groups : (p : ℕ → Bool) (n k : ℕ) (s : List ℕ) (fours : List (List ℕ)) → fours ≡ first_chunks n k s → count p (concat fours) ≡ count p (take (k * n) s)
count-groups p n k s fours e = rw (e, groups n k s)

pub groups-small : (p : ℕ → Bool) (n k : ℕ) (s : List ℕ) (fours : List (List ℕ)) → fours ≡ first_chunks n k s → count p (concat fours) ≤ length s
groups-small p n k s fours e = omega (arith, count-groups p n k s fours e, count-length p (take (k * n) s), length-take (k * n) s)

pub tallied-groups : {s : List ℕ} {i : ℕ} {hist : List ℕ} (n k : ℕ) (fours : List (List ℕ)) → fours ≡ first_chunks n k s → i ≡ k * n → length hist ≡ 256
    → ((v : ℕ) → v < 256 → get_or hist v 0 ≡ count (λ b. eqb b v) (concat fours)) → Tallied s i hist
tallied-groups {s} n k fours cut e size h = record { len = size; at = λ v m. h v m ∙ rw e (count-groups (λ b. eqb b v) n k s fours cut) }

-- the entry of v of a whole histogram, added to the bytes below v
pub below_step : (s hist : List ℕ) (v : ℕ) → hist ≡ tabulate 256 (λ v. count (λ b. eqb b v) s) → v < 256 → below v s + get_or hist v 0 ≡ below (v + 1) s
below_step s hist v e h = rw e (omega (arith, get_d_tabulate 256 (λ v. count (λ b. eqb b v) s) 0 v h, below_next v s))
