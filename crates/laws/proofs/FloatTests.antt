-- Tests of floats: against itself, against zero, and when a sum of values that are not negative is zero.
use mathlib.Core.Path.{◌≡◌, refl}
use mathlib.Core.Bool.{Bool, true, false, not, cond, ◌&&◌}
use Prim.Native.Nat.{ℕ, zero, suc, ◌+◌, ◌-◌, ◌*◌, ◌/◌, ◌%◌, ◌^◌, ◌≤◌, ◌<◌}
use native.Mathlib.Nat.{add_comm, one-mul, mul-pos, mul_comm, mul-le-mul_right, le_trans, le_of_eq}
use native.Mathlib.Omega.{arith}
use lib.IntN.{ℤ, pos}
use lib.Dec.{T, ltb, eqb, leb, leb→le}
use lib.Pow.{pow_pos}
use lib.Ieee.{Float, nan, inf, fin, Format, binary64, prec, emax, low, up, down, level, size, odd, units, round, sum, add, eq, ne, fits, is_nan}
use lib.Ieee.Fits.{up_pos, down_pos, and_l, and_r}
use lib.Ieee.Nearest.{closest}
use lib.Ieee.Order.{round_mono}
use lib.Ieee.Positive.{positive, above, above_of_le}
use lib.Ieee.Scale.{round_same}
use borrow.Author.Tests.{eq-eqb, ne_eqb}

level-self : (s : Bool) (a : ℕ) → level s a s a ≡ true
level-self true a = rw (eq-eqb a a refl)
level-self false a = rw (eq-eqb a a refl)

-- a NaN, and nothing else, differs from itself
pub ne-self : (x : Float) → ne x x ≡ is_nan x
unfolding ne eq is_nan
ne-self nan = refl
ne-self (inf true) = refl
ne-self (inf false) = refl
ne-self (fin s m e) = rw (level-self s (m * up e * down e))

-- a zero of either sign
abbrev pub is_zero : Float → Bool
is_zero nan = false
is_zero (inf s) = false
is_zero (fin s zero e) = true
is_zero (fin s (suc m) e) = false

abbrev pub origin : Float
origin = fin false 0 (pos 0)

level-zero : (s : Bool) (a b : ℕ) → a ≡ 0 → b ≡ 0 → level s a false b ≡ true
level-zero true a b p q = rw (eq-eqb a b (omega arith), eq-eqb a 0 p)
level-zero false a b p q = rw (eq-eqb a b (omega arith))

level-more : (s : Bool) (a b : ℕ) → 0 < a → b ≡ 0 → level s a false b ≡ false
level-more s a b p q = rw (ne_eqb a b (λ h. omega arith))

pub eq-zero : (x : Float) → eq x origin ≡ is_zero x
unfolding eq
eq-zero nan = refl
eq-zero (inf s) = refl
eq-zero (fin s zero e) = level-zero s (0 * up e * 1) (0 * 1 * down e) (omega arith) (omega arith)
eq-zero (fin s (suc m) e) =
    let u = mul-pos {m = suc m} {n = up e} (omega arith) (up_pos e) in
    level-more s (suc m * up e * 1) (0 * 1 * down e) (omega arith) (omega arith)

-- ---- sums of values that are not negative

-- NaN, or not negative
abbrev pub unsigned : Float → Bool
unsigned nan = true
unsigned (inf s) = not s
unsigned (fin s m e) = not s

odd-unsigned : (d q k l : ℕ) → T (unsigned (odd d false q k l))
unfolding odd
odd-unsigned d zero k l = tt
odd-unsigned d (suc q) k l = tt

cond-unsigned : (b : Bool) (x y : Float) → T (unsigned x) → T (unsigned y) → T (unsigned (cond b x y))
cond-unsigned true x y p q = p
cond-unsigned false x y p q = q

units-unsigned : (f : Format) (q k : ℕ) → T (unsigned (units f false q k))
unfolding units
units-unsigned f q k =
    cond-unsigned (ltb (q * 2 ^ k) (2 ^ (low f + suc (emax f)))) (odd (suc (prec f)) false q k (low f)) (inf false) (odd-unsigned (suc (prec f)) q k (low f)) tt

round-unsigned : (f : Format) (a c : ℕ) → T (unsigned (round f false a c))
unfolding round
round-unsigned f a c =
    let n = a * 2 ^ low f in
    let k = size (n / c) - prec f in
    units-unsigned f (closest n (c * 2 ^ k)) k

pub add-unsigned : (x y : Float) → T (unsigned x) → T (unsigned y) → T (unsigned (add binary64 x y))
unfolding add sum
add-unsigned nan y p q = tt
add-unsigned (inf true) y p q = absurd p
add-unsigned (inf false) nan p q = tt
add-unsigned (inf false) (inf true) p q = absurd q
add-unsigned (inf false) (inf false) p q = tt
add-unsigned (inf false) (fin t n d) p q = tt
add-unsigned (fin s m e) nan p q = tt
add-unsigned (fin s m e) (inf t) p q = q
add-unsigned (fin true m e) (fin t n d) p q = absurd p
add-unsigned (fin false m e) (fin true n d) p q = absurd q
add-unsigned (fin false m e) (fin false n d) p q = round-unsigned binary64 (m * up e * down d + n * up d * down e) (down e * down d)

round-zero : (a c : ℕ) → a ≡ 0 → 0 < c → is_zero (round binary64 false a c) ≡ true
unfolding round
round-zero a c z h = rw (round_same binary64 false a c 0 1 h (omega arith) (omega arith))

above-some : (x : Float) → T (above x) → is_zero x ≡ false
above-some nan h = refl
above-some (inf s) h = refl
above-some (fin true zero e) h = absurd h
above-some (fin false zero e) h = absurd h
above-some (fin s (suc m) e) h = refl

-- the smallest value above zero is 2 ^ -1074
smallest : T (positive (round binary64 false 1 (2 ^ 1074)))
unfolding round
smallest = tt

round-some : (a c : ℕ) → 0 < c → c ≤ a * 2 ^ 1074 → is_zero (round binary64 false a c) ≡ false
round-some a c h k =
    above-some (round binary64 false a c)
    (above_of_le (round binary64 false 1 (2 ^ 1074)) (round binary64 false a c) smallest
    (round_mono binary64 1 (2 ^ 1074) a c (pow_pos 1074) h (rw one-mul k)))

down-low : (s : Bool) (m : ℕ) (e : ℤ) → T (fits binary64 (fin s (suc m) e)) → down e ≤ 2 ^ 1074
unfolding fits
down-low s m e h = leb→le (down e) (2 ^ 1074) (third (eqb (suc m % 2) 1) (ltb (suc m) (2 ^ 53)) (leb (down e) (2 ^ 1074)) (ltb (suc m * up e) (2 ^ 1024 * down e)) h)
  where
    third : (a b c d : Bool) → T (a && b && c && d) → T c
    third a b c d t = and_r (a && b) c (and_l (a && b && c) d t)

-- D / E, times p at least 1, and more, is at least 1 / L where E is at most L
reach : (p D E L b : ℕ) → 0 < p → E ≤ L → E * D ≤ (p * D + b) * L
reach p D E L b h k =
    let u : 1 * D ≤ p * D = mul-le-mul_right D h in
    le_trans (mul-le-mul_right D k) (le_trans (le_of_eq (mul_comm L D)) (mul-le-mul_right L (omega arith)))

pub add-zero : (x y : Float) → T (unsigned x) → T (unsigned y) → T (fits binary64 x) → T (fits binary64 y) → is_zero (add binary64 x y) ≡ (is_zero x && is_zero y)
unfolding add sum
add-zero nan y p q f g = refl
add-zero (inf s) nan p q f g = refl
add-zero (inf true) (inf t) p q f g = absurd p
add-zero (inf false) (inf true) p q f g = absurd q
add-zero (inf false) (inf false) p q f g = refl
add-zero (inf s) (fin t n d) p q f g = refl
add-zero (fin s zero e) nan p q f g = refl
add-zero (fin s (suc m) e) nan p q f g = refl
add-zero (fin s zero e) (inf t) p q f g = refl
add-zero (fin s (suc m) e) (inf t) p q f g = refl
add-zero (fin true m e) (fin t n d) p q f g = absurd p
add-zero (fin false m e) (fin true n d) p q f g = absurd q
add-zero (fin false zero e) (fin false zero d) p q f g =
    round-zero (0 * up e * down d + 0 * up d * down e) (down e * down d) (omega arith) (mul-pos (down_pos e) (down_pos d))
add-zero (fin false (suc m) e) (fin false n d) p q f g =
    round-some (suc m * up e * down d + n * up d * down e) (down e * down d) (mul-pos (down_pos e) (down_pos d))
    (reach (suc m * up e) (down d) (down e) (2 ^ 1074) (n * up d * down e) (mul-pos (omega arith) (up_pos e)) (down-low false m e f))
add-zero (fin false zero e) (fin false (suc n) d) p q f g =
    round-some (0 * up e * down d + suc n * up d * down e) (down e * down d) (mul-pos (down_pos e) (down_pos d))
    (rw (mul_comm (down e) (down d), add_comm (0 * up e * down d) (suc n * up d * down e))
    (reach (suc n * up d) (down e) (down d) (2 ^ 1074) (0 * up e * down d) (mul-pos (omega arith) (up_pos d)) (down-low false n d g)))
