-- What `dilate_rows` knows at row y: the rows above it are done, those from it on are as they were.
use mathlib.Core.Path.{◌≡◌, ap, ◌∙◌}
use mathlib.Core.List.{List}
use Prim.Native.Nat.{ℕ, ◌+◌, ◌-◌, ◌*◌, ◌≤◌, ◌<◌, min}
use native.Mathlib.Decide.{ℕ_discrete}
use native.Mathlib.Omega.{arith}
use lib.ListN.{length, take, drop, get_or}
use borrow.Rule.Slice.PartMut.{put_mid}
use Rattle.laws.proofs.Max.{max-same}
use Rattle.dilate.specs.Dilate.{around}
use Rattle.laws.proofs.Planes.{row-part, row-place, row_put, other_put}

-- only the places below n count
around-same : (n r i : ℕ) (f g : ℕ → ℕ) → ((j : ℕ) → j < n → f j ≡ g j) → around n r i f ≡ around n r i g
unfolding around
around-same n r i f g h = max-same (i - r) (min n (i + r + 1)) f g (λ j a b. h j (omega arith))

pub record RowsDilated (w half : ℕ) (l₀ : List ℕ) (y : ℕ) (l : List ℕ) : Type 0 where
  pub done : (x v : ℕ) → x < w → v < y → get_or l (v * w + x) 0 ≡ around w half x (λ u. get_or l₀ (v * w + u) 0)
  pub rest : (x v : ℕ) → x < w → y ≤ v → get_or l (v * w + x) 0 ≡ get_or l₀ (v * w + x) 0

-- one more row
pub rows-more : {w half y : ℕ} {l₀ l : List ℕ} (h : ℕ) (m : List ℕ) → RowsDilated w half l₀ y l → y < h → length l ≡ w * h → length m ≡ length (take (y * w + w - y * w) (drop (y * w) l))
    → ((x : ℕ) → x < length (take (y * w + w - y * w) (drop (y * w) l))
    → get_or m x 0 ≡ around (length (take (y * w + w - y * w) (drop (y * w) l))) half x (λ u. get_or (take (y * w + w - y * w) (drop (y * w) l)) u 0))
    → RowsDilated w half l₀ (y + 1) (put_mid (y * w) (y * w + w - y * w) l m)
rows-more {w} {half} {y} {l₀} {l} h m R b size long row = record {
  done = λ x v p q. go x v p q (ℕ_discrete v y);
  rest = λ x v p q. other_put 0 l m w h y size (omega (arith, part)) b x v p (λ e. absurd (omega arith)) ∙ R.rest x v p (omega arith);
}
  where
    part : length (take (y * w + w - y * w) (drop (y * w) l)) ≡ w
    part = row-part y w h l b size

    go : (x v : ℕ) → x < w → v < y + 1 → Dec (v ≡ y) → get_or (put_mid (y * w) (y * w + w - y * w) l m) (v * w + x) 0 ≡ around w half x (λ u. get_or l₀ (v * w + u) 0)
    go x v p q (yes e) =
        rw e
        (row_put 0 l m w h y size (omega (arith, part)) b x p ∙ row x (omega (arith, part))
        ∙ ap (λ (n : ℕ). around n half x (λ u. get_or (take (y * w + w - y * w) (drop (y * w) l)) u 0)) part
        ∙ around-same w half x _ (λ u. get_or l₀ (y * w + u) 0) (λ u d. row-place 0 y w u l d ∙ R.rest u y d (omega arith)))
    go x v p q (no e) = other_put 0 l m w h y size (omega (arith, part)) b x v p e ∙ R.done x v p (omega (arith, e))
