-- Places written one after the other, as words, each of which reads back.
use mathlib.Core.Path.{◌≡◌, sym, ap, ◌∙◌}
use mathlib.Core.List.{List}
use Prim.Native.Nat.{ℕ, ◌<◌}
use native.Mathlib.Omega.{arith}
use lib.ListN.{length, get_or}
use Rattle.laws.specs.Lists.{tabulate}
use Rattle.laws.proofs.Tab.{Filled, filled-all, is-tabulate}

-- the first i of n places of l stand in out, and each reads back
pub record Placed {A : Type 0} (d : A) (enc : A → ℕ) (dec : ℕ → A) (n : ℕ) (l : List A) (i : ℕ) (out : List ℕ) : Type 0 where
  pub filled : Filled 0 (λ k. enc (get_or l k d)) n i out
  pub back : (k : ℕ) → k < i → dec (enc (get_or l k d)) ≡ get_or l k d

pub placed-all : {A : Type 0} {d : A} {enc : A → ℕ} {dec : ℕ → A} {n : ℕ} {l : List A} {i : ℕ} {out : List ℕ}
    → Placed d enc dec n l i out → i ≡ n → length l ≡ n
    → (out ≡ tabulate n (λ k. enc (get_or l k d))) × (tabulate n (λ k. dec (get_or out k 0)) ≡ l)
placed-all {A} {d} {enc} {dec} {n} {l} {i} {out} p e len = (
  filled-all p.filled (omega arith),
  sym (is-tabulate d l n (λ k. dec (get_or out k 0)) len (λ k h. sym (ap dec (p.filled.done k (omega arith)) ∙ p.back k (omega arith)))),
)
