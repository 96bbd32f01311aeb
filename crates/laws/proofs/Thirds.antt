-- Three planes of n elements each, one after the other in one list: what a loop that writes the three together knows at each place,
-- and the three as parts of the list.
use mathlib.Core.Path.{◌≡◌, sym, ap, ◌∙◌}
use mathlib.Core.List.{List, ◌++◌}
use Prim.Native.Nat.{ℕ, ◌+◌, ◌*◌, ◌≤◌, ◌<◌}
use native.Mathlib.Omega.{arith}
use native.Mathlib.Decide.{ℕ_discrete}
use lib.ListN.{length, take, drop, get_or, set, length-set, length-append, length-drop, take-append-drop}
use lib.Seq.{get_or-set_same, get_or-set_other, get_or-take, get_or-drop, length-take-le, take_at, drop_at, drop-drop, take_all}
use Rattle.laws.specs.Lists.{tabulate}
use Rattle.laws.proofs.Tab.{is-tabulate}

-- l has 3 * n elements, and at each place k below i of its three planes f k, g k and e k
pub record Thirds {A : Type 0} (d : A) (f g e : ℕ → A) (n i : ℕ) (l : List A) : Type 0 where
  pub len : length l ≡ 3 * n
  pub first : (k : ℕ) → k < i → get_or l k d ≡ f k
  pub second : (k : ℕ) → k < i → get_or l (n + k) d ≡ g k
  pub third : (k : ℕ) → k < i → get_or l (n + (n + k)) d ≡ e k

-- get_or of a list after a store
get_d_set : {A : Type 0} (l : List A) (i k : ℕ) (v d : A) (t : A) → i < length l → (k ≡ i → v ≡ t) → ((k ≡ i → ⊥) → get_or l k d ≡ t) → get_or (set l i v) k d ≡ t
get_d_set l i k v d t b same other = go (ℕ_discrete k i)
  where
    go : Dec (k ≡ i) → get_or (set l i v) k d ≡ t
    go (yes p) = rw p (get_or-set_same l i v d b ∙ same p)
    go (no p) = get_or-set_other l i k v d p ∙ other p

module _ {A : Type 0} {d : A} {f g e : ℕ → A} {n i : ℕ} {l : List A} (x y z : A) (T : Thirds d f g e n i l) (b : i < n) where
  at_i : (p : ℕ → A) (v : A) → v ≡ p i → (k : ℕ) → k ≡ i → v ≡ p k
  at_i p v h k q = h ∙ ap p (sym q)

  pub thirds-more : x ≡ f i → y ≡ g i → z ≡ e i → Thirds d f g e n (i + 1) (set (set (set l i x) (n + i) y) (n + (n + i)) z)
  thirds-more hx hy hz =
      let l₁ = set l i x in
      let l₂ = set l₁ (n + i) y in
      let e₁ : length l₁ ≡ 3 * n = length-set l i x ∙ T.len in
      let e₂ : length l₂ ≡ 3 * n = length-set l₁ (n + i) y ∙ e₁ in
      record {
        len = length-set l₂ (n + (n + i)) z ∙ e₂;
        first = λ k h.
            get_or-set_other l₂ (n + (n + i)) k z d (λ q. omega arith)
            ∙ get_or-set_other l₁ (n + i) k y d (λ q. omega arith)
            ∙ get_d_set l i k x d (f k) (omega (arith, T.len)) (at_i f x hx k) (λ q. T.first k (omega (arith, q)));
        second = λ k h.
            get_or-set_other l₂ (n + (n + i)) (n + k) z d (λ q. omega arith)
            ∙ get_d_set l₁ (n + i) (n + k) y d (g k) (omega arith) (λ q. at_i g y hy k (omega arith))
            (λ q. get_or-set_other l i (n + k) x d (λ r. omega arith) ∙ T.second k (omega (arith, q)));
        third = λ k h.
            get_d_set l₂ (n + (n + i)) (n + (n + k)) z d (e k) (omega arith) (λ q. at_i e z hz k (omega arith))
            (λ q.
            get_or-set_other l₁ (n + i) (n + (n + k)) y d (λ r. omega arith)
            ∙ get_or-set_other l i (n + (n + k)) x d (λ r. omega arith)
            ∙ T.third k (omega (arith, q)));
      }

-- a list that starts with n given elements, and goes on with ys
starts : {A : Type 0} (d : A) (l : List A) (n : ℕ) (f : ℕ → A) (ys : List A) → n ≤ length l → ((k : ℕ) → k < n → get_or l k d ≡ f k)
    → drop n l ≡ ys → l ≡ tabulate n f ++ ys
starts {A} d l n f ys b h e =
    let t : take n l ≡ tabulate n f = is-tabulate d (take n l) n f (length-take-le n l b) (λ k c. get_or-take n l k d c ∙ h k c) in
    sym (take-append-drop n l) ∙ cc (t, e)

pub thirds-all : {A : Type 0} {d : A} {f g e : ℕ → A} {n i : ℕ} {l : List A} → Thirds d f g e n i l → n ≤ i
    → l ≡ tabulate n f ++ (tabulate n g ++ tabulate n e)
thirds-all {A} {d} {f} {g} {e} {n} {i} {l} T b =
    let m = drop n l in
    let lm : length m ≡ n + n = omega (arith, length-drop n l, T.len) in
    starts d l n f (tabulate n g ++ tabulate n e) (omega (arith, T.len)) (λ k c. T.first k (omega arith))
    (starts d m n g (tabulate n e) (omega arith) (λ k c. get_or-drop n l k d ∙ T.second k (omega arith))
    (is-tabulate d (drop n m) n e (omega (arith, length-drop n m))
    (λ k c. get_or-drop n m k d ∙ get_or-drop n l (n + k) d ∙ T.third k (omega arith))))

-- three lists of n elements each, one after the other
module _ (xs ys zs : List ℕ) (n : ℕ) (x : length xs ≡ n) (y : length ys ≡ n) (z : length zs ≡ n) where
  pub joined_length : length (xs ++ (ys ++ zs)) ≡ 3 * n
  joined_length = omega (arith, length-append xs (ys ++ zs), length-append ys zs)

  pub part-second : take n (drop n (xs ++ (ys ++ zs))) ≡ ys
  part-second = ap (take n) (drop_at xs (ys ++ zs) n x) ∙ take_at ys zs n y

  pub part-third : take n (drop (n + n) (xs ++ (ys ++ zs))) ≡ zs
  part-third =
      let e : drop (n + n) (xs ++ (ys ++ zs)) ≡ zs =
      sym (drop-drop n n (xs ++ (ys ++ zs))) ∙ ap (drop n) (drop_at xs (ys ++ zs) n x) ∙ drop_at ys zs n y in
      ap (take n) e ∙ take_all n zs (omega arith)
