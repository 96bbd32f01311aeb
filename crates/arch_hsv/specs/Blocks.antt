-- What the private functions of the conversion know of a pixel, and of up to 256 at a time, before they work out hue and saturation.
use Rattle.std.specs.Prelude.{◌≡◌, List, ℕ, zero, suc, ◌+◌, ◌*◌, ◌/◌, ◌≤◌, ◌<◌, min, length, get_or, set}
use Rattle.arch_hsv.specs.Hsv.{rounded, degrees}

-- the hue in sixths of the circle, times D: `degrees` is 60 times that
unfoldable pub sixths : ℕ → ℕ → ℕ → ℕ
sixths b g r = degrees b g r / 60

-- an array of 256 that has f x at each place x below m
pub record FirstAre (f : ℕ → ℕ) (m : ℕ) (l : List ℕ) : Type 0 where
  pub size : length l ≡ 256
  pub done : (x : ℕ) → x < m → get_or l x 0 ≡ f x

-- place x of V, D and the sixths: D is at most V, and the hue at most the whole circle
pub record Bounded (v d k : List ℕ) (x : ℕ) : Type 0 where
  pub small : get_or d x 0 ≤ get_or v x 0
  pub circle : get_or k x 0 ≤ 6 * get_or d x 0

-- out with m pixels, by their V, D and sixths, stored from place `first` of its three planes of n bytes
unfoldable pub parts_stored : List ℕ → List ℕ → List ℕ → List ℕ → ℕ → ℕ → ℕ → List ℕ
parts_stored out v d k first n zero = out
parts_stored out v d k first n (suc x) =
    set
    (set
    (set (parts_stored out v d k first n x) (first + x) (min 179 (rounded (30 * get_or k x 0) (get_or d x 0))))
    (n + (first + x))
    (rounded (255 * get_or d x 0) (get_or v x 0)))
    (n + (n + (first + x)))
    (get_or v x 0)
