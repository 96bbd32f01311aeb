-- The d of `auto_kernel_size` is the greatest that RULES 5.13 asks for, and a d that passes where nothing greater does is that one.
use mathlib.Core.Path.{◌≡◌, refl}
use mathlib.Core.Bool.{Bool, true, false, cond}
use mathlib.Core.Logic.{◌⊎◌, inl, inr}
use Prim.Native.Nat.{ℕ, zero, suc, ◌+◌, ◌*◌, ◌/◌, ◌≤◌, ◌<◌}
use native.Mathlib.Nat.{mul-le-mul, le-div_iff_mul-le}
use native.Mathlib.Decide.{dec_lt}
use native.Mathlib.Omega.{arith}
use borrow.Author.Tests.{leb-true, leb-false}
use Rattle.canny_marks.specs.Kernel.{reach, within, greatest, spread}

-- d = 0 or (96 × (2d - 1))² ≤ n
abbrev pub Passes : ℕ → ℕ → Type 0
Passes n d = (d ≡ 0) ⊎ (reach d * reach d ≤ n)

greatest-passes : (n most : ℕ) → Passes n (greatest n most)
unfolding greatest
greatest-passes n zero = inl refl
greatest-passes n (suc d) = go (within n (suc d)) refl (greatest-passes n d)
  where
    go : (t : Bool) → within n (suc d) ≡ t → Passes n (greatest n d) → Passes n (cond t (suc d) (greatest n d))
    go true e ih = inr (leb-true _ _ e)
    go false e ih = ih

greatest-above : (n most e : ℕ) → e ≤ most → Passes n e → e ≤ greatest n most
unfolding greatest
greatest-above n zero e h p = h
greatest-above n (suc d) e h p = go (within n (suc d)) refl p (dec_lt d e) (λ k. greatest-above n d e k p)
  where
    go : (t : Bool) → within n (suc d) ≡ t → Passes n e → Dec (d < e) → (e ≤ d → e ≤ greatest n d) → e ≤ cond t (suc d) (greatest n d)
    go true q p k ih = h
    go false q p (no k) ih = ih (omega (arith, k))
    go false q (inl z) (yes k) ih = absurd (omega arith)
    go false q (inr r) (yes k) ih = let s : e ≡ suc d = omega arith in absurd (omega (arith, leb-false (reach (suc d) * reach (suc d)) n q, rw s at r))

-- none over n / 96² passes
small : (n e : ℕ) → Passes n e → e ≤ n / 9216
small n e (inl z) = omega arith
small n zero (inr r) = omega arith
small n (suc e) (inr r) =
    let m : (96 * suc e) * 96 ≤ reach (suc e) * reach (suc e) = mul-le-mul (omega arith) (omega arith) in
    (le-div_iff_mul-le {k = 9216} {x = suc e} {y = n} (omega arith)).1 (omega arith)

-- d is the greatest whole number with d = 0 or (96 × (2d - 1))² ≤ n
pub record Greatest (n d : ℕ) : Type 0 where
  pub passes : Passes n d
  pub all : (e : ℕ) → Passes n e → e ≤ d

pub spread-greatest : (n : ℕ) → Greatest n (spread n)
unfolding spread
spread-greatest n = record { passes = greatest-passes n (n / 9216); all = λ e p. greatest-above n (n / 9216) e (small n e p) p }

-- and so is a d that passes where d + 1 does not
pub spread-is : (n d : ℕ) → Passes n d → n < reach (d + 1) * reach (d + 1) → d ≡ spread n
spread-is n d p h = go (spread-greatest n).passes ((spread-greatest n).all d p) (dec_lt d (spread n))
  where
    go : Passes n (spread n) → d ≤ spread n → Dec (d < spread n) → d ≡ spread n
    go q k (no m) = omega (arith, m)
    go (inl z) k (yes m) = omega arith
    go (inr r) k (yes m) =
        let g : reach (d + 1) * reach (d + 1) ≤ reach (spread n) * reach (spread n) = mul-le-mul (omega arith) (omega arith) in
        absurd (omega arith)

-- by the root r of n / 96², rounded down: 2d - 1 is at most r, and 2d + 1 over it
root_passes : (n r d : ℕ) → r * r ≤ n / 9216 → d ≡ (r + 1) / 2 → Passes n d
root_passes n r zero a q = inl refl
root_passes n r (suc d) a q =
    let m : reach (suc d) * reach (suc d) ≤ (96 * r) * (96 * r) = mul-le-mul (omega arith) (omega arith) in
    inr (omega arith)

pub spread_root : (n r d : ℕ) → r * r ≤ n / 9216 → n / 9216 < (r + 1) * (r + 1) → d ≡ (r + 1) / 2 → d ≡ spread n
spread_root n r d a b q =
    let m : (96 * (r + 1)) * (96 * (r + 1)) ≤ reach (d + 1) * reach (d + 1) = mul-le-mul (omega arith) (omega arith) in
    spread-is n d (root_passes n r d a q) (omega arith)
