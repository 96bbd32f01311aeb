-- Along the rows, then down the columns and then up them: that is over the square.
use mathlib.Core.Path.{◌≡◌, sym, ap, ◌∙◌}
use mathlib.Core.List.{List}
use Prim.Native.Nat.{ℕ, ◌+◌, ◌-◌, ◌*◌, ◌/◌, ◌≤◌, ◌<◌, min}
use native.Mathlib.Nat.{le_antisymm}
use native.Mathlib.Decide.{dec_le}
use native.Mathlib.Omega.{arith}
use lib.ListN.{length, get_or}
use Rattle.laws.specs.Lists.{max_in}
use Rattle.laws.proofs.Max.{max-le, le-max, max-same}
use Rattle.laws.proofs.Planes.{is-plane}
use Rattle.dilate.specs.Dilate.{around, dilated}

-- place v counted up is row h - 1 - v: the largest of the half + 1 windows that reach on from a row to the half rows above it
pub around-both : (h half y : ℕ) (g : ℕ → ℕ) → y < h
    → max_in (h - 1 - y) (min h (h - 1 - y + (half + 1))) (λ v. max_in (h - 1 - v) (min h (h - 1 - v + (half + 1))) g) ≡ around h half y g
unfolding around
around-both h half y g b = le_antisymm below above
  where
    below : max_in (h - 1 - y) (min h (h - 1 - y + (half + 1))) (λ v. max_in (h - 1 - v) (min h (h - 1 - v + (half + 1))) g) ≤ max_in (y - half) (min h (y + half + 1)) g
    below =
        max-le (h - 1 - y) (min h (h - 1 - y + (half + 1))) (λ v. max_in (h - 1 - v) (min h (h - 1 - v + (half + 1))) g) (max_in (y - half) (min h (y + half + 1)) g)
        (λ v p q.
        max-le (h - 1 - v) (min h (h - 1 - v + (half + 1))) g (max_in (y - half) (min h (y + half + 1)) g)
        (λ u s t. le-max (y - half) (min h (y + half + 1)) g u (omega arith) (omega arith)))

    -- row u is in the window of the place of v
    by : (u v : ℕ) → h - 1 - y ≤ v → v < min h (h - 1 - y + (half + 1)) → h - 1 - v ≤ u → u < min h (h - 1 - v + (half + 1))
        → g u ≤ max_in (h - 1 - y) (min h (h - 1 - y + (half + 1))) (λ v. max_in (h - 1 - v) (min h (h - 1 - v + (half + 1))) g)
    by u v p q s t =
        omega (
          arith,
          le-max (h - 1 - v) (min h (h - 1 - v + (half + 1))) g u s t,
          le-max (h - 1 - y) (min h (h - 1 - y + (half + 1))) (λ v. max_in (h - 1 - v) (min h (h - 1 - v + (half + 1))) g) v p q,
        )

    each : (u : ℕ) → y - half ≤ u → u < min h (y + half + 1) → Dec (u ≤ y)
        → g u ≤ max_in (h - 1 - y) (min h (h - 1 - y + (half + 1))) (λ v. max_in (h - 1 - v) (min h (h - 1 - v + (half + 1))) g)
    each u s t (yes d) = by u (h - 1 - u) (omega arith) (omega arith) (omega arith) (omega arith)
    each u s t (no d) = by u (h - 1 - y) (omega arith) (omega arith) (omega (arith, d)) (omega arith)

    above : max_in (y - half) (min h (y + half + 1)) g ≤ max_in (h - 1 - y) (min h (h - 1 - y + (half + 1))) (λ v. max_in (h - 1 - v) (min h (h - 1 - v + (half + 1))) g)
    above =
        max-le (y - half) (min h (y + half + 1)) g (max_in (h - 1 - y) (min h (h - 1 - y + (half + 1))) (λ v. max_in (h - 1 - v) (min h (h - 1 - v + (half + 1))) g))
        (λ u s t. each u s t (dec_le u y))

pub over-square : (s l₁ l₂ m : List ℕ) (w h k n : ℕ) → length m ≡ w * h → n ≡ w
    → ((x y : ℕ) → x < n → y < h → get_or l₁ (y * n + x) 0 ≡ around n (k / 2) x (λ u. get_or s (y * n + u) 0))
    → ((x v : ℕ) → x < w → v < h → get_or l₂ (v * w + x) 0 ≡ max_in v (min h (v + (k / 2 + 1))) (λ v. get_or l₁ (v * w + x) 0))
    → ((x v : ℕ) → x < w → v < h → get_or m ((h - 1 - v) * w + x) 0 ≡ max_in v (min h (v + (k / 2 + 1))) (λ u. get_or l₂ ((h - 1 - u) * w + x) 0)) → m ≡ dilated s w h k
unfolding dilated around
over-square s l₁ l₂ m w h k n size e rows down up =
    is-plane 0 w h (λ x y. around h (k / 2) y (λ v. around w (k / 2) x (λ u. get_or s (v * w + u) 0))) m size
    (λ x y p q.
    let back : h - 1 - (h - 1 - y) ≡ y = omega arith in
    ap (λ (j : ℕ). get_or m (j * w + x) 0) (sym back)
    ∙ up x (h - 1 - y) p (omega arith)
    ∙ max-same (h - 1 - y) (min h (h - 1 - y + (k / 2 + 1))) (λ u. get_or l₂ ((h - 1 - u) * w + x) 0) (λ v. max_in (h - 1 - v) (min h (h - 1 - v + (k / 2 + 1))) (λ v. get_or l₁ (v * w + x) 0))
    (λ v a b. down x (h - 1 - v) p (omega arith))
    ∙ around-both h (k / 2) y (λ v. get_or l₁ (v * w + x) 0) q
    ∙ max-same (y - k / 2) (min h (y + k / 2 + 1)) (λ v. get_or l₁ (v * w + x) 0) (λ v. around w (k / 2) x (λ u. get_or s (v * w + u) 0)) (λ v a b. rw e at rows x v (omega arith) (omega arith)))
