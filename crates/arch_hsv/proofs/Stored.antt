-- Storing a row's pixels in the three planes, and from row to row the planes themselves. Assumes nothing.
use mathlib.Core.Path.{◌≡◌}
use mathlib.Core.List.{List}
use Prim.Native.Nat.{ℕ, zero, suc, ◌+◌, ◌*◌, ◌/◌, ◌%◌, ◌≤◌, ◌<◌}
use native.Mathlib.Nat.{add-zero}
use native.Mathlib.Numerals.{add-one}
use native.Mathlib.Omega.{arith}
use lib.ListN.{take, drop, get_or, set}
use Rattle.laws.proofs.Grid.{row-end, row_of, col-of}
use Rattle.laws.proofs.Parts.{get_d_part}
use Rattle.laws.proofs.Thirds.{Thirds, thirds-more}
use Rattle.arch_hsv.specs.declared.Hsv.{Hsv}
use Rattle.arch_hsv.specs.Hsv.{hue, saturation, value, hsv_of, byte_at}
use Rattle.arch_hsv.specs.Rows.{of_pixel, row_stored}

-- one more pixel
pub stored_more : (out row l : List ℕ) (first n x : ℕ) (p : Hsv) → l ≡ row_stored out row first n x
    → p ≡ hsv_of (get_or row (3 * x) 0) (get_or row (3 * x + 1) 0) (get_or row (3 * x + 2) 0)
    → set (set (set l (first + x) p.h) (n + (first + x)) p.s) (n + (n + (first + x))) p.v ≡ row_stored out row first n (x + 1)
unfolding row_stored hsv_of
stored_more out row l first n x p e q = rw (add-one x, e, q)

module _ {f g e : ℕ → ℕ} {n first : ℕ} {l : List ℕ} (row : List ℕ) (T : Thirds 0 f g e n first l) where
  -- a row's pixels take the three planes from place first to first + x
  pub row-thirds : (x : ℕ) → first + x ≤ n
      → ((k : ℕ) → k < x → of_pixel hue row k ≡ f (first + k))
      → ((k : ℕ) → k < x → of_pixel saturation row k ≡ g (first + k))
      → ((k : ℕ) → k < x → of_pixel value row k ≡ e (first + k))
      → Thirds 0 f g e n (first + x) (row_stored l row first n x)
  unfolding row_stored
  row-thirds zero b hf hg he = rw (add-zero first) T
  row-thirds (suc x) b hf hg he =
      let next : first + suc x ≡ first + x + 1 = omega arith in
      let before = row-thirds x (omega arith) (λ k h. hf k (omega arith)) (λ k h. hg k (omega arith)) (λ k h. he k (omega arith)) in
      rw next (thirds-more _ _ _ before (omega arith) (hf x (omega arith)) (hg x (omega arith)) (he x (omega arith)))

-- F of the pixel at place i of a plane of w columns
abbrev pub at : (ℕ → ℕ → ℕ → ℕ) → List ℕ → ℕ → ℕ → ℕ → ℕ
at F src w stride i = F (byte_at src stride (i % w) (i / w) 0) (byte_at src stride (i % w) (i / w) 1) (byte_at src stride (i % w) (i / w) 2)

-- pixel x of the part that starts at y * stride is the one at place y * w + x
pub pixel-at : (F : ℕ → ℕ → ℕ → ℕ) (src : List ℕ) (w stride y x : ℕ) → x < w
    → of_pixel F (take (3 * w) (drop (y * stride) src)) x ≡ at F src w stride (y * w + x)
pixel-at F src w stride y x h =
    let b = get_d_part (y * stride) (3 * w) src (3 * x) 0 (omega arith) in
    let g = get_d_part (y * stride) (3 * w) src (3 * x + 1) 0 (omega arith) in
    let r = get_d_part (y * stride) (3 * w) src (3 * x + 2) 0 (omega arith) in
    rw (row_of y w x h, col-of y w x h, add-zero (3 * x), b, g, r)

-- what a loop over the rows knows at row y
abbrev pub RowsStored : List ℕ → ℕ → ℕ → ℕ → ℕ → List ℕ → Type 0
RowsStored src w h stride y l = Thirds 0 (at hue src w stride) (at saturation src w stride) (at value src w stride) (w * h) (y * w) l

pub rows-stored-more : (src : List ℕ) (w h stride y : ℕ) (l m : List ℕ) → RowsStored src w h stride y l → y < h
    → m ≡ row_stored l (take (3 * w) (drop (y * stride) src)) (y * w) (w * h) w → RowsStored src w h stride (y + 1) m
rows-stored-more src w h stride y l m T b e =
    let next : (y + 1) * w ≡ y * w + w = omega arith in
    rw (next, e)
    (row-thirds (take (3 * w) (drop (y * stride) src)) T w (row-end y w h b)
    (pixel-at hue src w stride y)
    (pixel-at saturation src w stride y)
    (pixel-at value src w stride y))
