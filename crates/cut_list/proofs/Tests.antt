-- What the tests of two stamps say in whole numbers. A stamp z is `up z` less `dn z` (`laws`, Whole).
use Prim.Native.Nat.{ℕ, ◌+◌, ◌≤◌, ◌<◌}
use native.Mathlib.Omega.{arith}
use mathlib.Core.Path.{◌≡◌, refl, sym, ◌∙◌}
use mathlib.Core.Bool.{Bool, true, false, not, true≢false}
use borrow.Author.Tests.{ne_eqb, eq-eqb, ltb-true, ltb-false, eqb-true, eqb-false}
use lib.Dec.{ltb}
use lib.IntN.{ℤ, pos, ◌+ℤ◌}
use lib.Signed.{le_z, lt_z}
use Rattle.laws.proofs.Bools.{and-true}
use Rattle.laws.proofs.Whole.{whole, up, dn, eq-make, sum-read, abs-down, abs-up, lt-lt_z}
use Rattle.timestamp.specs.Stamps.{distance}
use Rattle.cut_list.specs.Record.{follows}
use Rattle.cut_list.specs.Change.{same, too_close}

-- y is later than x, and at least d past it
pub record Past (d : ℕ) (x y : ℤ) : Type 0 where
  pub later : up x + dn y < up y + dn x
  pub far : up x + dn y + d ≤ up y + dn x

pub follows-read : (d : ℕ) (x y : ℤ) → follows d x y ≡ true → Past d x y
unfolding follows
follows-read d x y e =
    let p = and-true (lt_z x y) (le_z (x +ℤ pos d) y) e in
    let lt = p.0 in
    let le = p.1 in
    record { later = omega whole; far = omega (whole, sum-read x (pos d)) }

pub follows-make : (d : ℕ) (x y : ℤ) → Past d x y → follows d x y ≡ true
unfolding follows
follows-make d x y p =
    let s = sum-read x (pos d) in
    let a = p.later in
    let b = p.far in
    let le : le_z (x +ℤ pos d) y ≡ true = omega whole in
    rw (lt-lt_z x y a, le)

pub follows-not : (d : ℕ) (x y : ℤ) → (Past d x y → ⊥) → follows d x y ≡ false
follows-not d x y n = by (follows d x y) refl
  where
    by : (b : Bool) → follows d x y ≡ b → b ≡ false
    by true e = absurd (n (follows-read d x y e))
    by false e = refl

pub past-trans : {d : ℕ} {x y z : ℤ} → Past d x y → Past d y z → Past d x z
past-trans {d} {x} {y} {z} p q =
    let a = p.later in
    let b = p.far in
    let c = q.later in
    let e = q.far in
    record { later = omega arith; far = omega arith }

-- the distance of two stamps, by which is the later
pub gap_down : (t x : ℤ) → up x + dn t ≤ up t + dn x → distance t x + (up x + dn t) ≡ up t + dn x
unfolding distance
gap_down t x h = abs-down t x h

pub gap_up : (t x : ℤ) → up t + dn x ≤ up x + dn t → distance t x + (up t + dn x) ≡ up x + dn t
unfolding distance
gap_up t x h = abs-up t x h

-- a stamp x that is before t: t lies too close to it exactly if it may not follow it
pub close-before : (d : ℕ) (t x : ℤ) → lt_z x t ≡ true → too_close d t x ≡ not (follows d x t)
unfolding too_close
close-before d t x h = by (ltb (distance t x) d) refl
  where
    before : up x + dn t < up t + dn x
    before = omega whole

    gap : distance t x + (up x + dn t) ≡ up t + dn x
    gap = gap_down t x (omega (arith, before))

    apart : same t x ≡ false
    apart = ne_eqb (distance t x) 0 (λ z. absurd (omega (arith, gap, before)))

    by : (b : Bool) → ltb (distance t x) d ≡ b → too_close d t x ≡ not (follows d x t)
    by true e = rw (apart, e, follows-not d x t (λ p. absurd (omega (arith, gap, ltb-true (distance t x) d e, p.far))))
    by false e = rw (apart, e, follows-make d x t (record { later = before; far = omega (arith, gap, ltb-false (distance t x) d e) }))

-- a stamp x that is not before t: t lies too close to it exactly if it may not follow t
pub close-after : (d : ℕ) (t x : ℤ) → lt_z x t ≡ false → too_close d t x ≡ not (follows d t x)
unfolding too_close
close-after d t x h = by (same t x) refl (ltb (distance t x) d) refl
  where
    after : up t + dn x ≤ up x + dn t
    after = omega whole

    gap : distance t x + (up t + dn x) ≡ up x + dn t
    gap = gap_up t x after

    by : (s : Bool) → same t x ≡ s → (b : Bool) → ltb (distance t x) d ≡ b → too_close d t x ≡ not (follows d t x)
    by true k b e = rw (k, follows-not d t x (λ p. absurd (omega (arith, gap, eqb-true (distance t x) 0 k, p.later))))
    by false k true e = rw (k, e, follows-not d t x (λ p. absurd (omega (arith, gap, ltb-true (distance t x) d e, p.far))))
    by false k false e =
        let n = eqb-false (distance t x) 0 k in
        rw (k, e, follows-make d t x (record { later = omega (arith, gap, n); far = omega (arith, gap, ltb-false (distance t x) d e) }))

-- a stamp that is before t is not the same
pub before-other : (t x : ℤ) → lt_z x t ≡ true → same t x ≡ false
before-other t x h = ne_eqb (distance t x) 0 (λ z. absurd (omega (whole, gap_down t x (omega whole))))

-- one that is neither before t nor the same is past it
pub other-past : (t x : ℤ) → lt_z x t ≡ false → same t x ≡ false → Past 0 t x
other-past t x h k =
    let g = gap_up t x (omega whole) in
    let n = eqb-false (distance t x) 0 k in
    record { later = omega (whole, g, n); far = omega (whole, g, n) }

-- one that is past t is not the same
pub past-other : (t x : ℤ) → up t + dn x < up x + dn t → same t x ≡ false
past-other t x h = ne_eqb (distance t x) 0 (λ z. absurd (omega (arith, gap_up t x (omega arith))))

-- the same are equal
pub same_read : (t x : ℤ) → same t x ≡ true → t ≡ x
same_read t x e = by (lt_z x t) refl
  where
    by : (b : Bool) → lt_z x t ≡ b → t ≡ x
    by true h = absurd (true≢false (sym e ∙ before-other t x h))
    by false h = eq-make {a = t} {b = x} (omega (whole, gap_up t x (omega whole), eqb-true (distance t x) 0 e))

-- and a stamp is the same as itself
pub same_refl : (t : ℤ) → same t t ≡ true
same_refl t = eq-eqb (distance t t) 0 (omega (arith, gap_up t t (omega arith)))
