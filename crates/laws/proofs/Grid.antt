-- Places of a grid of w columns: place y * w + x is column x of row y.
use mathlib.Core.Path.{◌≡◌, ap, ◌∙◌}
use Prim.Native.Nat.{ℕ, zero, suc, ◌+◌, ◌*◌, ◌/◌, ◌%◌, ◌≤◌, ◌<◌}
use native.Mathlib.Nat.{mul-le-mul_right, mul-add-div_right, mul-add-mod_self_right, div-eq_of_lt, mod-eq_of_lt, add-zero, div-add-mod', mod-lt, div-lt_iff_lt-mul}
use native.Mathlib.Omega.{arith}

-- a row y below h of w places ends at or before w * h
pub row-end : (y w h : ℕ) → y < h → y * w + w ≤ w * h
row-end y w h b = let m : suc y * w ≤ h * w = mul-le-mul_right w b in omega arith

pub row_of : (y w x : ℕ) → x < w → (y * w + x) / w ≡ y
row_of y w x h =
    let p : 0 < w = omega arith in
    mul-add-div_right p y x ∙ ap (λ (n : ℕ). y + n) (div-eq_of_lt h) ∙ add-zero y

pub col-of : (y w x : ℕ) → x < w → (y * w + x) % w ≡ x
col-of y w x h = mul-add-mod_self_right y w x ∙ mod-eq_of_lt h

-- a place below w * h is in a row below h and a column below w
pub row_lt : (i w h : ℕ) → i < w * h → i / w < h
row_lt i zero h b = absurd (omega arith)
row_lt i (suc w) h b = (div-lt_iff_lt-mul {k = suc w} {x = i} {y = h} (omega arith)).1 (omega arith)

pub col-lt : (i w h : ℕ) → i < w * h → i % w < w
col-lt i zero h b = absurd (omega arith)
col-lt i (suc w) h b = mod-lt i (omega arith)

pub place : (i w : ℕ) → i / w * w + i % w ≡ i
place i w = div-add-mod' i w

-- a row further up ends earlier
pub row-mono : (y z w : ℕ) → y ≤ z → y * w ≤ z * w
row-mono y z w h = mul-le-mul_right w h
