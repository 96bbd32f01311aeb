-- Products of whole numbers by a natural one, for `omega` (see Whole.antt).
use Prim.Native.Nat.{ℕ, zero, suc, ◌*◌}
use mathlib.Core.Path.{◌≡◌, refl}
use native.Mathlib.Omega.{arith}
use lib.IntN.{ℤ, pos, negsuc, neg_ℤ, ◌*ℤ◌}
use Rattle.laws.proofs.Whole.{up, dn}

minus-up : (n : ℕ) → up (neg_ℤ (pos n)) ≡ 0
minus-up zero = refl
minus-up (suc n) = refl

minus-dn : (n : ℕ) → dn (neg_ℤ (pos n)) ≡ n
minus-dn zero = refl
minus-dn (suc n) = refl

pub times-up : (k : ℕ) (z : ℤ) → up (pos k *ℤ z) ≡ k * up z
times-up k (pos n) = refl
times-up k (negsuc n) = omega (arith, minus-up (k * suc n))

pub times-dn : (k : ℕ) (z : ℤ) → dn (pos k *ℤ z) ≡ k * dn z
times-dn k (pos n) = omega arith
times-dn k (negsuc n) = minus-dn (k * suc n)
