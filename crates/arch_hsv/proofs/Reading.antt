-- What the definitions of specs/Hsv.antt say: `rounded` is the nearest, halves up; `delta` and each branch of `degrees` are those of
-- RULES 3.1 and 3.3 in whole numbers, so that no subtraction there is cut off at 0; hue is at most 179, and saturation at most 255.
-- Assumes nothing.
use mathlib.Core.Path.{◌≡◌}
use mathlib.Core.Bool.{Bool, true, false, cond}
use Prim.Native.Nat.{ℕ, ◌+◌, ◌-◌, ◌*◌, ◌/◌, ◌≤◌, ◌<◌, min, max}
use native.Mathlib.Nat.{div-lt_iff_lt-mul, div-add-mod', mod-lt, div-zero}
use native.Mathlib.Decide.{dec_lt, ℕ_discrete}
use native.Mathlib.Omega.{arith}
use lib.Dec.{eqb}
use lib.IntN.{pos, ◌+ℤ◌, ◌-ℤ◌, ◌*ℤ◌}
use borrow.Author.Tests.{eq-eqb, ne_eqb, le-leb, lt-leb}
use Rattle.laws.proofs.Whole.{whole, sum-read, minus-read}
use Rattle.laws.proofs.Times.{times-up, times-dn}
use Rattle.arch_hsv.specs.Hsv.{rounded, value, delta, saturation, degrees, hue}

-- a / b lies from half below its rounding, and that included, to half above, and that not
pub rounded-low : (a b : ℕ) → 0 < b → rounded a b * (2 * b) ≤ 2 * a + b
unfolding rounded
rounded-low a b h = omega (arith, div-add-mod' (2 * a + b) (2 * b))

pub rounded-high : (a b : ℕ) → 0 < b → 2 * a < rounded a b * (2 * b) + b
unfolding rounded
rounded-high a b h = omega (arith, div-add-mod' (2 * a + b) (2 * b), mod-lt (2 * a + b) {m = 2 * b} (omega arith))

-- at most n where a / b is
pub rounded-le : (a b n : ℕ) → 0 < b → a ≤ n * b → rounded a b ≤ n
unfolding rounded
rounded-le a b n h k =
    let q : (2 * a + b) / (2 * b) < n + 1 = (div-lt_iff_lt-mul {k = 2 * b} {x = 2 * a + b} {y = n + 1} (omega arith)).1 (omega arith) in
    omega arith

-- a quotient by 0 is 0, so that a table with 0 there needs no test
by_zero : (a b : ℕ) → b ≡ 0 → rounded a b ≡ 0
unfolding rounded
by_zero a b z = rw z (div-zero (2 * a + 0))

pub or-zero : (a b : ℕ) → rounded a b ≡ cond (eqb b 0) 0 (rounded a b)
or-zero a b = go (ℕ_discrete b 0)
  where
    go : Dec (b ≡ 0) → rounded a b ≡ cond (eqb b 0) 0 (rounded a b)
    go (yes z) = rw (eq-eqb b 0 z) (by_zero a b z)
    go (no z) = rw (ne_eqb b 0 z)

pub rounded-most : (a b n : ℕ) → a ≤ n * b → rounded a b ≤ n
rounded-most a b n k = go (ℕ_discrete b 0)
  where
    go : Dec (b ≡ 0) → rounded a b ≤ n
    go (yes z) = omega (arith, by_zero a b z)
    go (no z) = rounded-le a b n (omega (arith, z)) k

-- V is at or over each of the three, and each at most D below it
pub record Spread (b g r v d : ℕ) : Type 0 where
  pub blue : b ≤ v
  pub green : g ≤ v
  pub red : r ≤ v
  pub blue-low : v ≤ b + d
  pub green-low : v ≤ g + d
  pub red-low : v ≤ r + d
  pub small : d ≤ v

pub spread : (b g r : ℕ) → Spread b g r (value b g r) (delta b g r)
unfolding value delta
spread b g r = record {
  blue = omega arith;
  green = omega arith;
  red = omega arith;
  blue-low = omega arith;
  green-low = omega arith;
  red-low = omega arith;
  small = omega arith;
}

-- of bytes V is one
pub value-le : (b g r m : ℕ) → b ≤ m → g ≤ m → r ≤ m → value b g r ≤ m
unfolding value
value-le b g r m hb hg hr = omega arith

-- the branches of `degrees`
module _ (b g r : ℕ) where
  pub by-red : value b g r ≡ r → b ≤ g → degrees b g r ≡ 60 * (g - b)
  unfolding degrees
  by-red v h = simp (eq-eqb _ _ v, le-leb _ _ h)

  pub by-red-less : value b g r ≡ r → g < b → degrees b g r ≡ 360 * delta b g r - 60 * (b - g)
  unfolding degrees
  by-red-less v h = simp (eq-eqb _ _ v, lt-leb _ _ h)

  pub by-green : (value b g r ≡ r → ⊥) → value b g r ≡ g → degrees b g r ≡ 120 * delta b g r + 60 * b - 60 * r
  unfolding degrees
  by-green n v = simp (ne_eqb _ _ n, eq-eqb _ _ v)

  pub by-blue : (value b g r ≡ r → ⊥) → (value b g r ≡ g → ⊥) → degrees b g r ≡ 240 * delta b g r + 60 * r - 60 * g
  unfolding degrees
  by-blue n m = simp (ne_eqb _ _ n, ne_eqb _ _ m)

-- D in whole numbers, and the hue in degrees, times D
pub delta-reads : (b g r : ℕ) → pos (delta b g r) ≡ pos (value b g r) -ℤ pos (min (min b g) r)
unfolding value delta
delta-reads b g r = omega (whole, minus-read (pos (max (max b g) r)) (pos (min (min b g) r)))

module _ (b g r : ℕ) where
  pub red-reads : value b g r ≡ r → b ≤ g → pos (degrees b g r) ≡ pos 60 *ℤ (pos g -ℤ pos b)
  red-reads v h =
      let z = pos g -ℤ pos b in
      omega (whole, by-red b g r v h, minus-read (pos g) (pos b), times-up 60 z, times-dn 60 z)

  pub red-reads-negative : value b g r ≡ r → g < b → pos (degrees b g r) ≡ pos 60 *ℤ (pos g -ℤ pos b) +ℤ pos 360 *ℤ pos (delta b g r)
  red-reads-negative v h =
      let z = pos g -ℤ pos b in
      let s = sum-read (pos 60 *ℤ z) (pos 360 *ℤ pos (delta b g r)) in
      omega (whole, by-red-less b g r v h, spread b g r, minus-read (pos g) (pos b), times-up 60 z, times-dn 60 z)

  pub green-reads : (value b g r ≡ r → ⊥) → value b g r ≡ g → pos (degrees b g r) ≡ pos 60 *ℤ (pos b -ℤ pos r) +ℤ pos 120 *ℤ pos (delta b g r)
  green-reads n v =
      let z = pos b -ℤ pos r in
      let s = sum-read (pos 60 *ℤ z) (pos 120 *ℤ pos (delta b g r)) in
      omega (whole, by-green b g r n v, spread b g r, minus-read (pos b) (pos r), times-up 60 z, times-dn 60 z)

  pub blue-reads : (value b g r ≡ r → ⊥) → (value b g r ≡ g → ⊥) → pos (degrees b g r) ≡ pos 60 *ℤ (pos r -ℤ pos g) +ℤ pos 240 *ℤ pos (delta b g r)
  blue-reads n m =
      let z = pos r -ℤ pos g in
      let s = sum-read (pos 60 *ℤ z) (pos 240 *ℤ pos (delta b g r)) in
      omega (whole, by-blue b g r n m, spread b g r, minus-read (pos r) (pos g), times-up 60 z, times-dn 60 z)

-- at most 360 degrees
pub degrees-le : (b g r : ℕ) → degrees b g r ≤ 360 * delta b g r
degrees-le b g r = go (ℕ_discrete (value b g r) r) (ℕ_discrete (value b g r) g) (dec_lt g b)
  where
    go : Dec (value b g r ≡ r) → Dec (value b g r ≡ g) → Dec (g < b) → degrees b g r ≤ 360 * delta b g r
    go (yes v) m (yes h) = omega (arith, by-red-less b g r v h)
    go (yes v) m (no h) = omega (arith, by-red b g r v (omega (arith, h)), spread b g r)
    go (no n) (yes v) h = omega (arith, by-green b g r n v, spread b g r)
    go (no n) (no m) h = omega (arith, by-blue b g r n m, spread b g r)

pub hue-le : (b g r : ℕ) → hue b g r ≤ 179
unfolding hue
hue-le b g r = go (eqb (delta b g r) 0)
  where
    go : (t : Bool) → cond t 0 (min 179 (rounded (degrees b g r) (2 * delta b g r))) ≤ 179
    go true = omega arith
    go false = omega arith

pub saturation-le : (b g r : ℕ) → saturation b g r ≤ 255
unfolding saturation
saturation-le b g r = go (ℕ_discrete (value b g r) 0)
  where
    go : Dec (value b g r ≡ 0) → cond (eqb (value b g r) 0) 0 (rounded (255 * delta b g r) (value b g r)) ≤ 255
    go (yes z) = rw (eq-eqb _ _ z) (omega arith)
    go (no z) =
        rw (ne_eqb _ _ z)
        (rounded-le (255 * delta b g r) (value b g r) 255 (omega (arith, z)) (omega (arith, spread b g r)))
