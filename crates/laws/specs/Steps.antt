-- Steps in a fixed order.
use Rattle.std.specs.Prelude.{ℕ, zero, suc}

-- a after the steps g 0, g 1, .., g (n - 1), in that order
unfoldable pub steps {ℓ} : {A : Type ℓ} → ℕ → (ℕ → A → A) → A → A
steps zero g a = a
steps (suc n) g a = g n (steps n g a)
