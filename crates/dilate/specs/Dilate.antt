-- Dilation: the k × k window about each place, clipped to the frame, and the largest byte in it (RULES 5.12).
use Rattle.std.specs.Prelude.{◌≡◌, ◌⊎◌, List, ℕ, ◌+◌, ◌-◌, ◌*◌, ◌/◌, ◌≤◌, ◌<◌, min, length, get_or}
use Rattle.laws.specs.Lists.{max_in, plane}

-- the largest g u with i - r ≤ u ≤ i + r and u < n: the window that reaches r to each side of place i, clipped to n places
unfoldable pub around : ℕ → ℕ → ℕ → (ℕ → ℕ) → ℕ
around n r i g = max_in (i - r) (min n (i + r + 1)) g

-- `dilate`: at column x of row y the largest byte at (u, v), with x - k/2 ≤ u ≤ x + k/2 and y - k/2 ≤ v ≤ y + k/2, of a frame of w columns and h rows.
-- An odd k gives a window of k × k; for any other k the window reaches k / 2 to each side as well, and so is that of k + 1
unfoldable pub dilated : List ℕ → ℕ → ℕ → ℕ → List ℕ
dilated s w h k = plane w h (λ x y. around h (k / 2) y (λ v. around w (k / 2) x (λ u. get_or s (v * w + u) 0)))

-- the same window as a set of places: (u, v) is in the k × k window about (x, y), clipped to the frame
pub record InWindow (w h k x y u v : ℕ) : Type 0 where
  pub left : x ≤ u + k / 2
  pub right : u ≤ x + k / 2
  pub above : y ≤ v + k / 2
  pub below : v ≤ y + k / 2
  pub column : u < w
  pub row : v < h

-- the window about (x, y) has a byte b
pub record WindowHas (s : List ℕ) (w h k x y b : ℕ) : Type 0 where
  pub u : ℕ
  pub v : ℕ
  pub there : InWindow w h k x y u v
  pub byte : get_or s (v * w + u) 0 ≡ b

-- a plane of bytes 0 and 255
pub record Marked (s : List ℕ) : Type 0 where
  pub byte : (i : ℕ) → i < length s → (get_or s i 0 ≡ 0) ⊎ (get_or s i 0 ≡ 255)

-- e is the edge byte of (x, y), where the strong pixels of s are 255: it is 255 exactly where the k × k window about (x, y), clipped to the
-- frame, holds a strong pixel, otherwise 0 (RULES 5.12)
pub record EdgeByte (s : List ℕ) (w h k x y e : ℕ) : Type 0 where
  pub where-strong : WindowHas s w h k x y 255 → e ≡ 255
  pub only-where : e ≡ 255 → WindowHas s w h k x y 255
  pub otherwise : (WindowHas s w h k x y 255 → ⊥) → e ≡ 0
