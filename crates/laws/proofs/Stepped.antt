-- What a loop that takes the steps g 0, g 1, .. knows after k of them. A record, so that g is found from a hypothesis.
use Rattle.laws.specs.Steps.{steps}
use mathlib.Core.Path.{◌≡◌, refl, ap, ◌∙◌}
use Prim.Native.Nat.{ℕ, zero, suc, ◌+◌}
use native.Mathlib.Numerals.{add-one}

pub record Stepped {A : Type 0} (g : ℕ → A → A) (a₀ : A) (k : ℕ) (a : A) : Type 0 where
  pub at : a ≡ steps k g a₀

pub stepped-none : {A : Type 0} {g : ℕ → A → A} {a₀ : A} {k : ℕ} → k ≡ 0 → Stepped g a₀ k a₀
unfolding steps
stepped-none e = record { at = rw e refl }

pub stepped-more : {A : Type 0} {g : ℕ → A → A} {a₀ : A} {k n : ℕ} {a b : A} → Stepped g a₀ k a → n ≡ k + 1 → b ≡ g k a → Stepped g a₀ n b
unfolding steps
stepped-more {A} {g} {a₀} {k} {n} {a} {b} S e q = record { at = rw (e, add-one k) (q ∙ ap (g k) S.at) }

pub stepped-all : {A : Type 0} {g : ℕ → A → A} {a₀ : A} {k n : ℕ} {a : A} → Stepped g a₀ k a → k ≡ n → a ≡ steps n g a₀
stepped-all S e = rw (← e) S.at

-- what no step changes
pub steps-keep : {A B : Type 0} (f : A → B) (g : ℕ → A → A) → ((k : ℕ) (a : A) → f (g k a) ≡ f a) → (n : ℕ) (a : A) → f (steps n g a) ≡ f a
unfolding steps
steps-keep f g h zero a = refl
steps-keep f g h (suc n) a = h n (steps n g a) ∙ steps-keep f g h n a
