-- How long the texts of numbers and stamps are.
use mathlib.Core.Path.{◌≡◌, refl}
use mathlib.Core.Bool.{Bool, true, false, cond}
use mathlib.Core.List.{[], ◌∷◌, ◌++◌}
use Prim.Native.Nat.{ℕ, zero, suc, ◌+◌, ◌/◌, ◌%◌, ◌^◌, ◌≤◌, ◌<◌}
use native.Mathlib.Nat.{pow-suc}
use native.Mathlib.Omega.{arith}
use borrow.Author.Tests.{ltb-false}
use lib.Dec.{ltb, leb-zero}
use lib.IntN.{ℤ, pos, negsuc, nat_abs}
use lib.ListN.{length, length-append}
use lib.Signed.{le_z}
use mir.Syntax.{w64}
use mir.Val.{SFits}
use Rattle.decimal.specs.Writing.{digits, decimal, stamp_text}

pub digits-length : (k n : ℕ) → length (digits k n) ≤ k
unfolding digits
digits-length zero n = omega arith
digits-length (suc k) n = by-test (ltb n 10) (digits-length k (n / 10))
  where
    by-test : (small : Bool) → length (digits k (n / 10)) ≤ k → length (cond small ((48 + n) ∷ []) (digits k (n / 10) ++ ((48 + n % 10) ∷ []))) ≤ suc k
    by-test true h = omega arith
    by-test false h = omega (arith, length-append (digits k (n / 10)) ((48 + n % 10) ∷ []))

pub decimal_length : (n : ℕ) → length (decimal n) ≤ 20
decimal_length n = digits-length 20 n

pub stamp-length : (z : ℤ) → length (stamp_text z) ≤ 21
unfolding stamp_text
stamp-length z = by-test (le_z (pos 0) z)
  where
    by-test : (up : Bool) → length (cond up (decimal (nat_abs z)) (45 ∷ decimal (nat_abs z))) ≤ 21
    by-test true = omega (arith, decimal_length (nat_abs z))
    by-test false = omega (arith, decimal_length (nat_abs z))

-- a number below 10^(k + 1) has at most k + 1 digits
pub digits-short : (j k n : ℕ) → n < 10 ^ suc k → length (digits j n) ≤ suc k
unfolding digits
digits-short zero k n h = omega arith
digits-short (suc j) k n h = by-test (ltb n 10) refl k h (digits-short j)
  where
    by-test : (small : Bool) → ltb n 10 ≡ small → (k : ℕ) → n < 10 ^ suc k → ((k m : ℕ) → m < 10 ^ suc k → length (digits j m) ≤ suc k)
        → length (cond small ((48 + n) ∷ []) (digits j (n / 10) ++ ((48 + n % 10) ∷ []))) ≤ suc k
    by-test true t k h rest = omega arith
    by-test false t zero h rest = absurd (omega (arith, ltb-false n 10 t))
    by-test false t (suc k) h rest =
        omega (arith, length-append (digits j (n / 10)) ((48 + n % 10) ∷ []), rest k (n / 10) (omega (arith, pow-suc 10 (suc k))))

-- a stamp of 64 bits has at most 19 digits
pub stamp-short : (z : ℤ) → SFits w64 z → length (stamp_text z) ≤ 20
unfolding stamp_text
stamp-short (pos n) f = let h : n < 9223372036854775808 = f.sfits in rw (leb-zero n) (omega (arith, digits-length 20 n))
stamp-short (negsuc n) f = let h : n < 9223372036854775808 = f.sfits in omega (arith, digits-short 20 18 (suc n) (omega arith))
