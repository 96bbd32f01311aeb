-- A plane of w columns and h rows, given by column and row, that a loop writes row by row by `&mut p[a..e]`, with a = y * w and e = a + w.
use Rattle.laws.specs.Lists.{tabulate, plane}
use mathlib.Core.Path.{◌≡◌, sym, ap, ◌∙◌}
use mathlib.Core.List.{List}
use Prim.Native.Nat.{ℕ, ◌+◌, ◌-◌, ◌*◌, ◌/◌, ◌%◌, ◌≤◌, ◌<◌}
use native.Mathlib.Nat.{mul-le-mul_right}
use native.Mathlib.Decide.{dec_lt}
use native.Mathlib.Omega.{arith}
use lib.ListN.{length, take, drop, get_or}
use borrow.Rule.Slice.PartMut.{put_mid}
use Rattle.laws.proofs.Tab.{is-tabulate, length-tabulate, get_d_tabulate, Filled, filled-from, filled-all}
use Rattle.laws.proofs.Parts.{filled-part, length_part, get_d_part, put-before, put_in, put-after}
use Rattle.laws.proofs.Grid.{row-end, row-mono, row_of, col-of, row_lt, col-lt, place}

pub width : (a w : ℕ) → a + w - a ≡ w
width a w = omega arith

-- the rows above y are written. A record, so that f is found from a hypothesis
pub record RowsDone {A : Type 0} (d : A) (f : ℕ → ℕ → A) (w h y : ℕ) (l : List A) : Type 0 where
  pub filled : Filled d (λ i. f (i % w) (i / w)) (w * h) (y * w) l

pub rows_none : {A : Type 0} {d : A} {f : ℕ → ℕ → A} {w h : ℕ} {l : List A} → length l ≡ w * h → RowsDone d f w h 0 l
rows_none {A} {d} {f} {w} {h} {l} e = record { filled = filled-from d (λ i. f (i % w) (i / w)) (w * h) (0 * w) l e (omega arith) }

pub rows_more : {A : Type 0} {d : A} {f : ℕ → ℕ → A} {w h y : ℕ} {l m : List A} → RowsDone d f w h y l → y < h → m ≡ tabulate w (λ x. f x y)
    → RowsDone d f w h (y + 1) (put_mid (y * w) (y * w + w - y * w) l m)
rows_more {A} {d} {f} {w} {h} {y} {l} {m} R b e =
    let next : (y + 1) * w ≡ y * w + w = omega arith in
    record {
      filled = rw (next, width (y * w) w)
          (filled-part w m R.filled (row-end y w h b) (ap length e ∙ length-tabulate w (λ x. f x y))
          (λ j k. ap (λ (l : List A). get_or l j d) e ∙ get_d_tabulate w (λ x. f x y) d j k ∙ sym (cc (row_of y w j k, col-of y w j k))));
    }

pub rows_all : {A : Type 0} {d : A} {f : ℕ → ℕ → A} {w h y : ℕ} {l : List A} → RowsDone d f w h y l → h ≤ y → l ≡ plane w h f
rows_all {A} {d} {f} {w} {h} {y} {l} R b = filled-all R.filled (omega (arith, mul-le-mul_right w b))

-- the part of row y
pub row-part : {A : Type 0} (y w h : ℕ) (l : List A) → y < h → length l ≡ w * h → length (take (y * w + w - y * w) (drop (y * w) l)) ≡ w
row-part y w h l b e = rw (width (y * w) w) (length_part (y * w) w l (omega (arith, row-end y w h b)))

-- what it has at column x
pub row-place : {A : Type 0} (d : A) (y w x : ℕ) (l : List A) → x < w → get_or (take (y * w + w - y * w) (drop (y * w) l)) x d ≡ get_or l (y * w + x) d
row-place d y w x l h = get_d_part (y * w) (y * w + w - y * w) l x d (omega arith)

-- once m is written to row r: that row, and any other
module _ {A : Type 0} (d : A) (l m : List A) (w h r : ℕ) (size : length l ≡ w * h) (long : length m ≡ w) (inside : r < h) where
  fits : r * w + (r * w + w - r * w) ≤ length l
  fits = omega (arith, width (r * w) w, row-end r w h inside)

  pub row_put : (x : ℕ) → x < w → get_or (put_mid (r * w) (r * w + w - r * w) l m) (r * w + x) d ≡ get_or m x d
  row_put x b = put_in (r * w) (r * w + w - r * w) l m d fits (omega arith) x (omega arith)

  pub other_put : (x y : ℕ) → x < w → (y ≡ r → ⊥) → get_or (put_mid (r * w) (r * w + w - r * w) l m) (y * w + x) d ≡ get_or l (y * w + x) d
  other_put x y b ne = go (dec_lt y r)
    where
      go : Dec (y < r) → get_or (put_mid (r * w) (r * w + w - r * w) l m) (y * w + x) d ≡ get_or l (y * w + x) d
      go (yes q) = put-before (r * w) (r * w + w - r * w) l m d fits (omega arith) (y * w + x) (let up : y + 1 ≤ r = omega arith in omega (arith, row-mono (y + 1) r w up))
      go (no q) =
          let up : r + 1 ≤ y = (let k : y ≡ r → ⊥ = ne in omega (arith, q)) in
          put-after (r * w) (r * w + w - r * w) l m d fits (omega arith) (y * w + x) (omega (arith, width (r * w) w, row-mono (r + 1) y w up))

-- a list of w * h elements with f x y at column x of each row y is that plane, and the plane has that there
pub is-plane : {A : Type 0} (d : A) (w h : ℕ) (f : ℕ → ℕ → A) (l : List A) → length l ≡ w * h
    → ((x y : ℕ) → x < w → y < h → get_or l (y * w + x) d ≡ f x y) → l ≡ plane w h f
is-plane {A} d w h f l e at =
    is-tabulate d l (w * h) (λ i. f (i % w) (i / w)) e
    (λ i b. ap (λ (n : ℕ). get_or l n d) (sym (place i w)) ∙ at (i % w) (i / w) (col-lt i w h b) (row_lt i w h b))

pub place-lt : (x y w h : ℕ) → x < w → y < h → y * w + x < w * h
place-lt x y w h a b = omega (arith, row-end y w h b)

pub get_d-plane : {A : Type 0} (d : A) (w h : ℕ) (f : ℕ → ℕ → A) (x y : ℕ) → x < w → y < h → get_or (plane w h f) (y * w + x) d ≡ f x y
get_d-plane d w h f x y a b =
    get_d_tabulate (w * h) (λ i. f (i % w) (i / w)) d (y * w + x) (place-lt x y w h a b) ∙ cc (row_of y w x a, col-of y w x a)
