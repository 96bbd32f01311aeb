-- One more block of places is widened: its own places by `Columns::gather`, and those past it by `Columns::reach_on`.
use mathlib.Core.Path.{◌≡◌, refl, sym, ap, ◌∙◌}
use mathlib.Core.List.{List}
use Prim.Native.Nat.{ℕ, ◌+◌, ◌≤◌, ◌<◌, min, max}
use native.Mathlib.Decide.{dec_le}
use native.Mathlib.Omega.{arith}
use Rattle.laws.specs.Lists.{max_in}
use Rattle.laws.proofs.Max.{max_none, max-split, max-same}
use Rattle.dilate.specs.declared.Columns.{Columns}
use Rattle.dilate.specs.Places.{along, Rewritten}
use Rattle.dilate.proofs.Places.{then-after}

module _ {c : Columns} {start : ℕ} {l₀ l a b : List ℕ} (D : Rewritten c 0 start (λ x v. max_in v (min c.h (v + c.n)) (along c l₀ x)) l₀ l)
    (A : Rewritten c start (min c.h (start + c.n)) (λ x v. max_in v (min c.h (start + c.n)) (along c l x)) l a)
    (B : Rewritten c start (min c.h (start + c.n)) (λ x v. max (along c a x v) (max_in (start + c.n) (min c.h (v + c.n)) (along c a x))) a b) (inside : start < c.h) where
  -- the window of a place of the block is the end of the block and what is past it
  window : (x v : ℕ) → start ≤ v → v < min c.h (start + c.n) → Dec (start + c.n ≤ c.h)
      → max (max_in v (min c.h (start + c.n)) (along c l x)) (max_in (start + c.n) (min c.h (v + c.n)) (along c l x)) ≡ max_in v (min c.h (v + c.n)) (along c l x)
  window x v p q (yes d) =
      let e : min c.h (start + c.n) ≡ start + c.n = omega arith in
      rw e (sym (max-split v (start + c.n) (min c.h (v + c.n)) (along c l x) (omega arith) (omega arith)))
  window x v p q (no d) =
      let e : min c.h (start + c.n) ≡ c.h = omega (arith, d) in
      let k : min c.h (v + c.n) ≡ c.h = omega (arith, d) in
      rw (e, k) (omega (arith, max_none (start + c.n) c.h (along c l x) (omega (arith, d))))

  block : Rewritten c start (min c.h (start + c.n)) (λ x v. max_in v (min c.h (v + c.n)) (along c l₀ x)) l b
  block = record {
    here = λ x v p q s t.
        B.here x v p q s t
        ∙ ap (λ (m : ℕ). max m (max_in (start + c.n) (min c.h (v + c.n)) (along c a x))) (A.here x v p q s t)
        ∙ ap (λ (m : ℕ). max (max_in v (min c.h (start + c.n)) (along c l x)) m)
        (max-same (start + c.n) (min c.h (v + c.n)) (along c a x) (along c l x) (λ j u w. A.rest x j p (omega arith) (λ y z. omega arith)))
        ∙ window x v s t (dec_le (start + c.n) c.h)
        ∙ max-same v (min c.h (v + c.n)) (along c l x) (along c l₀ x) (λ j u w. D.rest x j p (omega arith) (λ y z. omega arith));
    rest = λ x v p q k. B.rest x v p q k ∙ A.rest x v p q k;
  }

  pub blocks-more : (end : ℕ) → end ≡ min c.h (start + c.n) → Rewritten c 0 end (λ x v. max_in v (min c.h (v + c.n)) (along c l₀ x)) l₀ b
  blocks-more end e = rw e (then-after D block (omega arith) (omega arith) (λ x v p q s t. refl))
