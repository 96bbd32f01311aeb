-- A window that reaches further, by three that reach less far.
use mathlib.Core.Path.{◌≡◌}
use Prim.Native.Nat.{ℕ, ◌+◌, ◌-◌, ◌≤◌, ◌<◌, min, max}
use native.Mathlib.Nat.{le_antisymm}
use native.Mathlib.Decide.{dec_le, dec_lt}
use native.Mathlib.Omega.{arith}
use Rattle.laws.specs.Lists.{max_in}
use Rattle.laws.proofs.Max.{max-le, le-max, max-one}
use Rattle.dilate.specs.Dilate.{around}
use Rattle.dilate.proofs.Window.{around-ge}

-- a window that reaches nowhere is its place
pub around-zero : (n i : ℕ) (g : ℕ → ℕ) → i < n → g i ≡ around n 0 i g
unfolding around
around-zero n i g h =
    let hi : min n (i + 0 + 1) ≡ i + 1 = omega arith in
    let lo : i - 0 ≡ i = omega arith in
    rw (hi, lo, max-one i g)

-- a window that reaches as far as there are places holds them all
pub around-all : (n r i : ℕ) (g : ℕ → ℕ) → i < n → around n (min r n) i g ≡ around n r i g
unfolding around
around-all n r i g h =
    let hi : min n (i + min r n + 1) ≡ min n (i + r + 1) = omega arith in
    let lo : i - min r n ≡ i - r = omega arith in
    rw (hi, lo)

-- the largest of a window is at least that of one within it
around_in : (n a i b j : ℕ) (g : ℕ → ℕ) → j + b ≤ i + a → i + b ≤ j + a → around n b j g ≤ around n a i g
unfolding around
around_in n a i b j g p q =
    max-le (j - b) (min n (j + b + 1)) g (max_in (i - a) (min n (i + a + 1)) g)
    (λ u x y. le-max (i - a) (min n (i + a + 1)) g u (omega arith) (omega arith))

-- a step: v is the largest of the three windows of f, or of two where there is none before
module _ (n a s i v : ℕ) (f g : ℕ → ℕ) (h : i < n) (step : s ≤ a + 1) (inside : (j : ℕ) → j < n → f j ≡ around n a j g) (past : (j : ℕ) → n ≤ j → f j ≡ 0)
    (first : i < s → v ≡ max (f i) (f (i + s))) (others : s ≤ i → v ≡ max (max (f i) (f (i + s))) (f (i - s))) where
  ahead : Dec (i + s < n) → f (i + s) ≤ around n (a + s) i g
  ahead (yes b) = omega (arith, inside (i + s) b, around_in n (a + s) i a (i + s) g (omega arith) (omega arith))
  ahead (no b) = omega (arith, past (i + s) (omega (arith, b)))

  below : Dec (s ≤ i) → v ≤ around n (a + s) i g
  below (yes b) =
      omega (
        arith,
        others b,
        inside i h,
        around_in n (a + s) i a i g (omega arith) (omega arith),
        ahead (dec_lt (i + s) n),
        inside (i - s) (omega arith),
        around_in n (a + s) i a (i - s) g (omega arith) (omega arith),
      )
  below (no b) =
      omega (arith, first (omega (arith, b)), inside i h, around_in n (a + s) i a i g (omega arith) (omega arith), ahead (dec_lt (i + s) n))

  most : f i ≤ v
  most = go (dec_le s i)
    where
      go : Dec (s ≤ i) → f i ≤ v
      go (yes b) = omega (arith, others b)
      go (no b) = omega (arith, first (omega (arith, b)))

  most-ahead : f (i + s) ≤ v
  most-ahead = go (dec_le s i)
    where
      go : Dec (s ≤ i) → f (i + s) ≤ v
      go (yes b) = omega (arith, others b)
      go (no b) = omega (arith, first (omega (arith, b)))

  each : (u : ℕ) → i - (a + s) ≤ u → u < min n (i + (a + s) + 1) → Dec (u + a < i) → Dec (i + a < u) → g u ≤ v
  each u x y (yes b) d = omega (arith, others (omega arith), inside (i - s) (omega arith), around-ge n a (i - s) g u (record { low = omega arith; high = omega arith; inside = omega arith }))
  each u x y (no b) (yes d) = omega (arith, most-ahead, inside (i + s) (omega arith), around-ge n a (i + s) g u (record { low = omega arith; high = omega arith; inside = omega arith }))
  each u x y (no b) (no d) = omega (arith, most, inside i h, around-ge n a i g u (record { low = omega (arith, b); high = omega (arith, d); inside = omega arith }))

  above : around n (a + s) i g ≤ v
  unfolding around
  above = max-le (i - (a + s)) (min n (i + (a + s) + 1)) g v (λ u x y. each u x y (dec_lt (u + a) i) (dec_lt (i + a) u))

  pub around-step : v ≡ around n (a + s) i g
  around-step = le_antisymm (below (dec_le s i)) above
