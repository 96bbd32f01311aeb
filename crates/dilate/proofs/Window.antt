-- The dilated plane by its window as a set of places: at each place the largest byte of the window, and on bytes 0 and 255 the edge byte of
-- RULES 5.12.
use mathlib.Core.Path.{◌≡◌, sym, ◌∙◌}
use mathlib.Core.Logic.{◌⊎◌, inl, inr}
use mathlib.Core.List.{List}
use Prim.Native.Nat.{ℕ, ◌+◌, ◌-◌, ◌*◌, ◌/◌, ◌≤◌, ◌<◌, min}
use native.Mathlib.Nat.{le_trans}
use native.Mathlib.Omega.{arith}
use lib.ListN.{length, get_or}
use Rattle.laws.proofs.Max.{le-max}
use Rattle.laws.proofs.MaxAt.{max-at}
use Rattle.laws.proofs.Planes.{get_d-plane, place-lt}
use Rattle.dilate.specs.Dilate.{around, dilated, InWindow, WindowHas, Marked, EdgeByte}

-- a place within r of i, below n
pub record Near (n r i u : ℕ) : Type 0 where
  pub low : i ≤ u + r
  pub high : u ≤ i + r
  pub inside : u < n

-- the largest near i is not below any of these, and is one of them
pub around-ge : (n r i : ℕ) (g : ℕ → ℕ) (u : ℕ) → Near n r i u → g u ≤ around n r i g
unfolding around
around-ge n r i g u N = le-max (i - r) (min n (i + r + 1)) g u (omega arith) (omega arith)

pub record AroundAt (n r i : ℕ) (g : ℕ → ℕ) : Type 0 where
  pub place : ℕ
  pub near : Near n r i place
  pub largest : g place ≡ around n r i g

pub around-at : (n r i : ℕ) (g : ℕ → ℕ) → i < n → AroundAt n r i g
unfolding around
around-at n r i g h =
    let m = max-at (i - r) (min n (i + r + 1)) g (omega arith) in
    record {
      place = m.place;
      near = record { low = omega (arith, m.low); high = omega (arith, m.high); inside = omega (arith, m.high) };
      largest = m.largest;
    }

module _ (s : List ℕ) (w h k x y : ℕ) (a : x < w) (b : y < h) where
  abbrev row : ℕ → ℕ
  row v = around w (k / 2) x (λ u. get_or s (v * w + u) 0)

  at_place : get_or (dilated s w h k) (y * w + x) 0 ≡ around h (k / 2) y row
  unfolding dilated
  at_place = get_d-plane 0 w h (λ x y. around h (k / 2) y (λ v. around w (k / 2) x (λ u. get_or s (v * w + u) 0))) x y a b

  -- no byte of the window is larger
  pub dilated-ge : (u v : ℕ) → InWindow w h k x y u v → get_or s (v * w + u) 0 ≤ get_or (dilated s w h k) (y * w + x) 0
  dilated-ge u v i =
      rw at_place
      (le_trans
      (around-ge w (k / 2) x (λ u. get_or s (v * w + u) 0) u (record { low = i.left; high = i.right; inside = i.column }))
      (around-ge h (k / 2) y row v (record { low = i.above; high = i.below; inside = i.row })))

  -- and one of them is it
  pub dilated-at : WindowHas s w h k x y (get_or (dilated s w h k) (y * w + x) 0)
  dilated-at =
      let c = around-at h (k / 2) y row b in
      let r = around-at w (k / 2) x (λ u. get_or s (c.place * w + u) 0) a in
      record {
        u = r.place;
        v = c.place;
        there = record {
          left = r.near.low;
          right = r.near.high;
          above = c.near.low;
          below = c.near.high;
          column = r.near.inside;
          row = c.near.inside;
        };
        byte = r.largest ∙ c.largest ∙ sym at_place;
      }

  -- an edge byte is 255 exactly where the k × k window, clipped to the frame, holds a strong pixel, otherwise 0
  pub edge-byte : length s ≡ w * h → Marked s → EdgeByte s w h k x y (get_or (dilated s w h k) (y * w + x) 0)
  edge-byte size M = record {
    where-strong = λ H. strong H bytes;
    only-where = λ e. record { u = dilated-at.u; v = dilated-at.v; there = dilated-at.there; byte = dilated-at.byte ∙ e };
    otherwise = λ n. other n bytes;
  }
    where
      e : ℕ
      e = get_or (dilated s w h k) (y * w + x) 0

      bytes : (e ≡ 0) ⊎ (e ≡ 255)
      bytes =
          rw dilated-at.byte at
          (M.byte (dilated-at.v * w + dilated-at.u) (omega (arith, size, place-lt dilated-at.u dilated-at.v w h dilated-at.there.column dilated-at.there.row)))

      strong : WindowHas s w h k x y 255 → (e ≡ 0) ⊎ (e ≡ 255) → e ≡ 255
      strong H (inl z) = absurd (omega (arith, z, H.byte, dilated-ge H.u H.v H.there))
      strong H (inr z) = z

      other : (WindowHas s w h k x y 255 → ⊥) → (e ≡ 0) ⊎ (e ≡ 255) → e ≡ 0
      other n (inl z) = z
      other n (inr z) = absurd (n (record { u = dilated-at.u; v = dilated-at.v; there = dilated-at.there; byte = dilated-at.byte ∙ z }))
