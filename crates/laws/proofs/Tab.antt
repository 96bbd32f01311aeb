-- A list given by index, and the laws that relate it to stores and to parts.
use Rattle.laws.specs.Lists.{tabulate}
use mathlib.Core.Path.{◌≡◌, refl, sym, ap, ◌∙◌}
use mathlib.Core.List.{List}
use Prim.Native.Nat.{ℕ, zero, suc, ◌+◌, ◌≤◌, ◌<◌}
use native.Mathlib.Nat.{le_of_suc-le-suc, not-suc-le-zero}
use native.Mathlib.Omega.{arith}
use native.Mathlib.Decide.{ℕ_discrete}
use lib.ListN.{length, get_or, set, length-set, replicate, length-replicate, get_or-replicate}
use lib.Seq.{ext_get_or, get_or-set_same, get_or-set_other}

pub length-tabulate {ℓ} : {A : Type ℓ} (n : ℕ) (f : ℕ → A) → length (tabulate n f) ≡ n
unfolding tabulate
length-tabulate zero f = refl
length-tabulate (suc n) f = ap suc (length-tabulate n (λ i. f (suc i)))

pub get_d_tabulate {ℓ} : {A : Type ℓ} (n : ℕ) (f : ℕ → A) (d : A) (i : ℕ) → i < n → get_or (tabulate n f) i d ≡ f i
unfolding tabulate
get_d_tabulate zero f d i h = absurd (not-suc-le-zero h)
get_d_tabulate (suc n) f d zero h = refl
get_d_tabulate (suc n) f d (suc i) h = get_d_tabulate n (λ j. f (suc j)) d i (le_of_suc-le-suc h)

-- a list of n elements whose every element is f i is tabulate n f
pub is-tabulate {ℓ} : {A : Type ℓ} (d : A) (l : List A) (n : ℕ) (f : ℕ → A) → length l ≡ n → ((i : ℕ) → i < n → get_or l i d ≡ f i) → l ≡ tabulate n f
is-tabulate d l n f e h =
    ext_get_or d l (tabulate n f) (e ∙ sym (length-tabulate n f))
    (λ i k. let b : i < n = omega (arith, e) in h i b ∙ sym (get_d_tabulate n f d i b))

-- l has n elements, and f k at each place k below i: what a loop that writes places 0, 1, .. knows at place i
pub record Filled {A : Type 0} (d : A) (f : ℕ → A) (n i : ℕ) (l : List A) : Type 0 where
  pub len : length l ≡ n
  pub done : (k : ℕ) → k < i → get_or l k d ≡ f k

pub filled_none : {A : Type 0} (d : A) (f : ℕ → A) (n : ℕ) (l : List A) → length l ≡ n → Filled d f n 0 l
filled_none d f n l e = record { len = e; done = λ k h. absurd (not-suc-le-zero h) }

pub filled-from : {A : Type 0} (d : A) (f : ℕ → A) (n i : ℕ) (l : List A) → length l ≡ n → i ≡ 0 → Filled d f n i l
filled-from d f n i l e z = rw z (filled_none d f n l e)

pub filled_more : {A : Type 0} {d : A} {f : ℕ → A} {n i : ℕ} {l : List A} (v : A) → Filled d f n i l → i < n → v ≡ f i → Filled d f n (i + 1) (set l i v)
filled_more {A} {d} {f} {n} {i} {l} v F h e = record {
  len = length-set l i v ∙ F.len;
  done = λ k b. step k b (ℕ_discrete k i);
}
  where
    step : (k : ℕ) → k < i + 1 → Dec (k ≡ i) → get_or (set l i v) k d ≡ f k
    step k b (yes p) = rw p (get_or-set_same l i v d (omega (arith, F.len)) ∙ e)
    step k b (no p) = get_or-set_other l i k v d p ∙ F.done k (omega (arith, p))

pub filled-all : {A : Type 0} {d : A} {f : ℕ → A} {n i : ℕ} {l : List A} → Filled d f n i l → n ≤ i → l ≡ tabulate n f
filled-all {A} {d} {f} {n} {i} {l} F h = is-tabulate d l n f F.len (λ k b. F.done k (omega arith))

-- n equal elements, where f is that element throughout
pub cleared : {A : Type 0} (d : A) (w n : ℕ) (f : ℕ → A) (l : List A) → n ≡ w → ((x : ℕ) → x < w → d ≡ f x) → l ≡ replicate n d → l ≡ tabulate w f
cleared d w n f l en z e =
    is-tabulate d l w f (ap length e ∙ length-replicate n d ∙ en)
    (λ i h. let b : i < n = omega (arith, en) in rw e (get_or-replicate n i d d b ∙ z i h))
