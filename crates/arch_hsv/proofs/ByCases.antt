-- The hue in sixths of the circle, times D: the three cases of `degrees`, each worked out without a test, and hue by it. Assumes nothing.
use mathlib.Core.Path.{◌≡◌, refl, sym, ◌∙◌}
use mathlib.Core.Bool.{Bool, true, false, cond}
use Prim.Native.Nat.{ℕ, ◌+◌, ◌-◌, ◌*◌, ◌≤◌, ◌<◌, min}
use native.Mathlib.Nat.{mul-div-mul_left, mul-div_cancel_left}
use native.Mathlib.Decide.{dec_lt, ℕ_discrete}
use native.Mathlib.Omega.{arith}
use lib.Dec.{leb, eqb}
use borrow.Author.Tests.{eq-eqb, ne_eqb, le-leb, lt-leb}
use Rattle.arch_hsv.specs.Hsv.{rounded, value, delta, saturation, degrees, hue}
use Rattle.arch_hsv.specs.Blocks.{sixths}
use Rattle.arch_hsv.proofs.Reading.{spread, by-red, by-red-less, by-green, by-blue, degrees-le, or-zero}

module _ (b g r v d : ℕ) (ev : v ≡ value b g r) (ed : d ≡ delta b g r) where
  cases : (x y z : ℕ) → x ≡ cond (leb b g) 0 (6 * d) → y ≡ cond (eqb v g) (2 * d + b - r) (4 * d + r - g) → z ≡ cond (eqb v r) (x + g - b) y
      → 60 * z ≡ degrees b g r
  cases x y z ex ey ez = go (ℕ_discrete v r) (ℕ_discrete v g) (dec_lt g b)
    where
      go : Dec (v ≡ r) → Dec (v ≡ g) → Dec (g < b) → 60 * z ≡ degrees b g r
      go (yes p) m (yes h) =
          let fx : x ≡ 6 * d = rw (lt-leb b g h) at ex in
          let fz : z ≡ x + g - b = rw (eq-eqb v r p) at ez in
          omega (arith, by-red-less b g r (sym ev ∙ p) h, spread b g r)
      go (yes p) m (no h) =
          let fx : x ≡ 0 = rw (le-leb b g (omega (arith, h))) at ex in
          let fz : z ≡ x + g - b = rw (eq-eqb v r p) at ez in
          omega (arith, by-red b g r (sym ev ∙ p) (omega (arith, h)))
      go (no n) (yes p) h =
          let fy : y ≡ 2 * d + b - r = rw (eq-eqb v g p) at ey in
          let fz : z ≡ y = rw (ne_eqb v r n) at ez in
          omega (arith, by-green b g r (λ q. n (ev ∙ q)) (sym ev ∙ p))
      go (no n) (no m) h =
          let fy : y ≡ 4 * d + r - g = rw (ne_eqb v g m) at ey in
          let fz : z ≡ y = rw (ne_eqb v r n) at ez in
          omega (arith, by-blue b g r (λ q. n (ev ∙ q)) (λ q. m (ev ∙ q)))

-- `degrees` is 60 times that
exact : (b g r : ℕ) → 60 * sixths b g r ≡ degrees b g r
unfolding sixths
exact b g r =
    let v = value b g r in
    let d = delta b g r in
    let x = cond (leb b g) 0 (6 * d) in
    let y = cond (eqb v g) (2 * d + b - r) (4 * d + r - g) in
    let e = cases b g r v d refl refl x y (cond (eqb v r) (x + g - b) y) refl refl refl in
    rw (← e, mul-div_cancel_left (cond (eqb v r) (x + g - b) y) {n = 60} (omega arith))

pub sixths-is : (b g r v d : ℕ) → v ≡ value b g r → d ≡ delta b g r → (x y z : ℕ) → x ≡ cond (leb b g) 0 (6 * d)
    → y ≡ cond (eqb v g) (2 * d + b - r) (4 * d + r - g) → z ≡ cond (eqb v r) (x + g - b) y → z ≡ sixths b g r
sixths-is b g r v d ev ed x y z ex ey ez = omega (arith, cases b g r v d ev ed x y z ex ey ez, exact b g r)

pub sixths-le : (b g r : ℕ) → sixths b g r ≤ 6 * delta b g r
sixths-le b g r = omega (arith, exact b g r, degrees-le b g r)

-- both sides of a quotient halved
halved : (k d : ℕ) → rounded (60 * k) (2 * d) ≡ rounded (30 * k) d
unfolding rounded
halved k d =
    let e : 2 * (60 * k) + 2 * d ≡ 2 * (2 * (30 * k) + d) = omega arith in
    rw e (mul-div-mul_left (2 * (30 * k) + d) (2 * d) (omega arith))

pub hue-is : (b g r : ℕ) → min 179 (rounded (30 * sixths b g r) (delta b g r)) ≡ hue b g r
unfolding hue
hue-is b g r = rw (← exact b g r, halved (sixths b g r) (delta b g r)) (go (eqb (delta b g r) 0) (or-zero (30 * sixths b g r) (delta b g r)))
  where
    go : (t : Bool) → rounded (30 * sixths b g r) (delta b g r) ≡ cond t 0 (rounded (30 * sixths b g r) (delta b g r))
        → min 179 (rounded (30 * sixths b g r) (delta b g r)) ≡ cond t 0 (min 179 (rounded (30 * sixths b g r) (delta b g r)))
    go true e = omega (arith, e)
    go false e = refl

pub saturation-is : (b g r : ℕ) → rounded (255 * delta b g r) (value b g r) ≡ saturation b g r
unfolding saturation
saturation-is b g r = or-zero (255 * delta b g r) (value b g r)

-- what the quotients ask of the parts
pub ruleset of_parts = (spread, sixths-le)
