-- `dir_of` by the picks that `direction` makes: ax and ay are the sizes.
use mathlib.Core.Path.{◌≡◌}
use mathlib.Core.Bool.{cond}
use Prim.Native.Nat.{ℕ, ◌*◌}
use lib.Dec.{ltb, eqb}
use lib.IntN.{ℤ, nat_abs}
use Rattle.arch_sobel.specs.Sobel.{sign_of, dir_of}

pub by-picks : (gx gy : ℤ) (ax ay slant steep r : ℕ) → ax ≡ nat_abs gx → ay ≡ nat_abs gy → slant ≡ cond (eqb (sign_of gx) (sign_of gy)) 1 3
    → steep ≡ cond (ltb (2414 * ax) (1000 * ay)) 2 slant → r ≡ cond (ltb (1000 * ay) (414 * ax)) 0 steep → r ≡ dir_of gx gy
unfolding dir_of
by-picks gx gy ax ay slant steep r ex ey e₁ e₂ e₃ = rw (e₃, e₂, e₁, ex, ey)
