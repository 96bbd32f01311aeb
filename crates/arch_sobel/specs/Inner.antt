-- Inner places and parts of a row of them, as the operator's functions and thinning ask for them, and what is worked out at a place.
use Rattle.std.specs.Prelude.{List, ℕ, ◌+◌, ◌-◌, ◌*◌, ◌<◌, get_or, ℤ, pos, ◌-ℤ◌}

-- column x of row y has a neighbour on every side
pub record Inner (w h x y : ℕ) : Type 0 where
  pub left : 0 < x
  pub right : x + 1 < w
  pub top : 0 < y
  pub bottom : y + 1 < h

-- so has each of the n places of row y from column x on
pub record InnerPart (w h n x y : ℕ) : Type 0 where
  pub left : 0 < x
  pub right : x + n < w
  pub top : 0 < y
  pub bottom : y + 1 < h

-- the byte at place i and the two that are a step away, added with the weights 1, 2, 1
abbrev pub smooth : List ℕ → ℕ → ℕ → ℕ
smooth s i step = get_or s (i - step) 0 + 2 * get_or s i 0 + get_or s (i + step) 0

-- what is a step on less what is a step back, each smoothed by steps the other way
unfoldable pub grad : List ℕ → ℕ → ℕ → ℕ → ℤ
grad s i step other = pos (smooth s (i + step) other) -ℤ pos (smooth s (i - step) other)
