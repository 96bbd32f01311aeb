-- Products that fit their width.
use Prim.Native.Nat.{ℕ, ◌*◌, ◌≤◌}
use native.Mathlib.Nat.{le_trans, mul-le-mul_right, mul-le-mul_left}

-- a product grows with its factors
pub product_le : {a b m n : ℕ} → a ≤ m → b ≤ n → a * b ≤ m * n
product_le {a} {b} {m} {n} p q = le_trans (mul-le-mul_left a q) (mul-le-mul_right n p)
