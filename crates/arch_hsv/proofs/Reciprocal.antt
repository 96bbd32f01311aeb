-- A quotient as a product with a reciprocal, and the test that an entry of the table passes. Assumes nothing.
use mathlib.Core.Path.{◌≡◌, sym, ap}
use mathlib.Core.Bool.{Bool, true}
use mathlib.Core.List.{List}
use Prim.Native.Nat.{ℕ, zero, suc, ◌+◌, ◌-◌, ◌*◌, ◌/◌, ◌%◌, ◌≤◌, ◌<◌}
use native.Mathlib.Nat.{div-add-mod', mod-lt, div-eq_of_lt-le, lt_of_mul-lt-mul_left, lt_of_le_of_lt, mul-le-mul_right, zero-mul, zero-div}
use native.Mathlib.Omega.{arith}
use lib.Dec.{T, leb, ltb, leb→le, ltb→lt}
use lib.ListN.{length, get_or}
use Rattle.arch_hsv.specs.Hsv.{rounded}
use Rattle.arch_hsv.specs.Reciprocals.{Reciprocal, Reciprocals}
use Rattle.arch_hsv.proofs.Tested.{both, both_left, both_right, every, at}

-- t * m is p and a rest e, too small to show: n * t / p is n / m
pub by_reciprocal : (n m t e p : ℕ) → 0 < m → t * m ≡ p + e → n * e < p → n * t / p ≡ n / m
by_reciprocal n m t e p hm ht he =
    let q = n / m in
    let r = n % m in
    let split : q * m + r ≡ n = div-add-mod' n m in
    let below : r < m = mod-lt n hm in
    let by_parts : n * t ≡ (q * m + r) * t = ap (λ (k : ℕ). k * t) (sym split) in
    let whole : q * (t * m) ≡ q * (p + e) = ap (λ (k : ℕ). q * k) ht in
    let scaled : n * (t * m) ≡ n * (p + e) = ap (λ (k : ℕ). n * k) ht in
    let above : suc n * p ≤ (q * m + m) * p = mul-le-mul_right p (omega arith) in
    div-eq_of_lt-le {k = q} p {m = n * t} (omega arith) (lt_of_mul-lt-mul_left m (omega arith))

-- the test of entry b: times 2b it is 2^32 and a rest, too small to show in any n to 511 * b
abbrev reaches : ℕ → ℕ → Bool
reaches b t = leb 4294967296 (t * (2 * b))

abbrev close : ℕ → ℕ → Bool
close b t = ltb (511 * b * (t * (2 * b) - 4294967296)) 4294967296

unfoldable pub right : ℕ → ℕ → Bool
right zero t = true
right (suc b) t = both (reaches (suc b) t) (close (suc b) t)

right_is : (b t : ℕ) → T (right b t) → Reciprocal b t
unfolding right
right_is zero t h n k = let z : n ≡ 0 = omega arith in rw (z, zero-mul t) (zero-div 4294967296)
right_is (suc b) t h n k =
    let m = 2 * suc b in
    let e = t * m - 4294967296 in
    let low = leb→le 4294967296 (t * m) (both_left (reaches (suc b) t) (close (suc b) t) h) in
    let high = ltb→lt (511 * suc b * e) 4294967296 (both_right (reaches (suc b) t) (close (suc b) t) h) in
    by_reciprocal n m t e 4294967296 (omega arith) (omega arith) (lt_of_le_of_lt (mul-le-mul_right e k) high)

pub reciprocals-at : (t : List ℕ) → T (every right 0 t) → length t ≡ 256 → Reciprocals t
reciprocals-at t h l b k = right_is b (get_or t b 0) (at right t h b (omega arith))

-- what `nearest` has of entry b
pub nearest-is : (t : List ℕ) (a b : ℕ) → Reciprocals t → b < 256 → a ≤ 255 * b → (2 * a + b) * get_or t b 0 / 4294967296 ≡ rounded a b
unfolding rounded
nearest-is t a b h k l = h b k (2 * a + b) (omega arith)
