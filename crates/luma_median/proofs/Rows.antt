-- The counts of a plane's rows, one row after the other: what one more row adds, and where the rows are the plane's bytes in one piece.
use mathlib.Core.Path.{◌≡◌, refl, ap, ◌∙◌}
use mathlib.Core.List.{List, ◌++◌}
use Prim.Native.Nat.{ℕ, zero, suc, ◌+◌, ◌-◌, ◌*◌, ◌/◌, ◌%◌, ◌≤◌, ◌<◌}
use native.Mathlib.Decide.{dec_lt}
use native.Mathlib.Omega.{arith}
use lib.Dec.{eqb}
use lib.ListN.{length, take, drop, get_or, set, replicate, length-append, length-replicate, length-set, get_or-append, get_or-replicate}
use lib.Seq.{get_or-take, get_or-append-add, length-take-le}
use Rattle.laws.specs.Lists.{tabulate}
use Rattle.laws.proofs.Grid.{row-end}
use Rattle.laws.proofs.Parts.{get_d_part, length_part}
use Rattle.laws.proofs.Planes.{width, is-plane, get_d-plane, place-lt}
use Rattle.laws.proofs.Tab.{length-tabulate, get_d_tabulate, is-tabulate}
use Rattle.arch_planes.specs.Packed.{packed}
use Rattle.canny_marks.specs.Median.{count}
use Rattle.canny_marks.proofs.Counts.{changed, count-append, count-length, count-more, count-whole}

-- the counts of a list, one for each value
abbrev pub counts_of : List ℕ → List ℕ
counts_of s = tabulate 256 (λ v. count (λ b. eqb b v) s)

pub count_at : (s hist : List ℕ) (v : ℕ) → hist ≡ counts_of s → v < 256 → get_or hist v 0 ≡ count (λ b. eqb b v) s
count_at s hist v e h = rw e (get_d_tabulate 256 (λ v. count (λ b. eqb b v) s) 0 v h)

-- the counts have grown by those of the first i bytes of a row
pub record Grown (old row : List ℕ) (i : ℕ) (counts : List ℕ) : Type 0 where
  pub len : length counts ≡ 256
  pub at : (v : ℕ) → v < 256 → get_or counts v 0 ≡ get_or old v 0 + count (λ b. eqb b v) (take i row)

pub grown_none : (old row : List ℕ) → length old ≡ 256 → Grown old row 0 old
unfolding count
grown_none old row e = record { len = e; at = λ v h. omega arith }

-- one more byte of the row
pub grown_more : {old row : List ℕ} {i b : ℕ} {counts : List ℕ} → Grown old row i counts → i < length row → b ≡ get_or row i 0 → b < 256
    → Grown old row (i + 1) (set counts b (get_or counts b 0 + 1))
grown_more {old} {row} {i} {b} {counts} G inside e h = record {
  len = length-set counts b (get_or counts b 0 + 1) ∙ G.len;
  at = λ v k. rw (changed (λ (n : ℕ). n) counts b 1 v _ 0 (omega (arith, G.len)) refl, count-more (λ x. eqb x v) row i inside, ← e) (omega (arith, G.at v k));
}

-- a count grows by at most the number of these bytes
pub grown-small : {old row : List ℕ} {i : ℕ} {counts : List ℕ} → Grown old row i counts → i ≤ length row → (v : ℕ) → v < 256
    → get_or counts v 0 ≤ get_or old v 0 + i
grown-small {old} {row} {i} G inside v h = omega (arith, G.at v h, count-length (λ b. eqb b v) (take i row), length-take-le i row inside)

pub grown_all : {old row : List ℕ} {i : ℕ} {counts : List ℕ} → Grown old row i counts → i ≡ length row
    → counts ≡ tabulate 256 (λ v. get_or old v 0 + count (λ b. eqb b v) row)
grown_all {old} {row} {i} {counts} G e =
    is-tabulate 0 counts 256 (λ v. get_or old v 0 + count (λ b. eqb b v) row) G.len
    (λ v h. G.at v h ∙ ap (λ (n : ℕ). get_or old v 0 + n) (count-whole (λ b. eqb b v) row i e))

pub packed-length : (s : List ℕ) (w h stride : ℕ) → length (packed s w h stride) ≡ w * h
unfolding packed
packed-length s w h stride = length-tabulate (w * h) _

-- row y follows the rows above it
next-row : (s : List ℕ) (w y stride : ℕ) → y * stride + w ≤ length s → packed s w y stride ++ take w (drop (y * stride) s) ≡ packed s w (y + 1) stride
unfolding packed
next-row s w y stride inside =
    let above = packed s w y stride in
    let row = take w (drop (y * stride) s) in
    is-plane 0 w (y + 1) (λ x v. get_or s (v * stride + x) 0) (above ++ row)
    (length-append above row ∙ omega (arith, long, length_part (y * stride) w s inside))
    (λ x v a b. go x v a b (dec_lt v y))
  where
    long : length (packed s w y stride) ≡ w * y
    long = packed-length s w y stride

    go : (x v : ℕ) → x < w → v < y + 1 → Dec (v < y) → get_or (packed s w y stride ++ take w (drop (y * stride) s)) (v * w + x) 0 ≡ get_or s (v * stride + x) 0
    go x v a b (yes h) =
        get_or-append (packed s w y stride) (take w (drop (y * stride) s)) 0 (v * w + x) (omega (arith, long, place-lt x v w y a h))
        ∙ get_d-plane 0 w y (λ x v. get_or s (v * stride + x) 0) x v a h
    go x v a b (no h) =
        let last : v ≡ y = omega (arith, h) in
        let at : v * w + x ≡ length (packed s w y stride) + x = rw last (omega (arith, long)) in
        rw at (get_or-append-add (packed s w y stride) (take w (drop (y * stride) s)) x 0 ∙ get_d_part (y * stride) w s x 0 a ∙ rw last refl)

-- no rows, no bytes
pub rows_none : (s : List ℕ) (w stride : ℕ) → replicate 256 0 ≡ counts_of (packed s w 0 stride)
rows_none s w stride =
    is-tabulate 0 (replicate 256 0) 256 (λ v. count (λ b. eqb b v) (packed s w 0 stride)) (length-replicate {A = ℕ} 256 0)
    (λ v h. get_or-replicate {A = ℕ} 256 v 0 0 h ∙ omega (arith, count-length (λ b. eqb b v) (packed s w 0 stride), packed-length s w 0 stride))

-- one more row is counted
pub rows_more : {counts new : List ℕ} (s : List ℕ) (w y stride : ℕ) → counts ≡ counts_of (packed s w y stride) → y * stride + w ≤ length s
    → new ≡ tabulate 256 (λ v. get_or counts v 0 + count (λ b. eqb b v) (take (y * stride + w - y * stride) (drop (y * stride) s)))
    → new ≡ counts_of (packed s w (y + 1) stride)
rows_more {counts} {new} s w y stride e inside n =
    is-tabulate 0 new 256 (λ v. count (λ b. eqb b v) (packed s w (y + 1) stride)) (ap length n ∙ length-tabulate 256 _)
    (λ v h. ap (λ (l : List ℕ). get_or l v 0) n ∙ get_d_tabulate 256 _ 0 v h ∙ step v h)
  where
    step : (v : ℕ) → v < 256
        → get_or counts v 0 + count (λ b. eqb b v) (take (y * stride + w - y * stride) (drop (y * stride) s)) ≡ count (λ b. eqb b v) (packed s w (y + 1) stride)
    step v h =
        rw (width (y * stride) w, ← next-row s w y stride inside, count-append (λ b. eqb b v) (packed s w y stride) (take w (drop (y * stride) s)))
        (omega (arith, count_at (packed s w y stride) counts v e h))

-- and the counts stay small
pub rows_small : {counts : List ℕ} (s : List ℕ) (w h y stride v : ℕ) → counts ≡ counts_of (packed s w y stride) → y < h → v < 256
    → y * stride + w ≤ length s → get_or counts v 0 + length (take (y * stride + w - y * stride) (drop (y * stride) s)) ≤ w * h
rows_small {counts} s w h y stride v e b k inside =
    rw (width (y * stride) w, length_part (y * stride) w s inside)
    (omega (arith, count_at (packed s w y stride) counts v e k, count-length (λ b. eqb b v) (packed s w y stride), packed-length s w y stride, row-end y w h b))

-- rows without padding are the bytes that the plane begins with
pub in_one : (s : List ℕ) (w h : ℕ) → w * h ≤ length s → take (w * h) s ≡ packed s w h w
unfolding packed
in_one s w h inside =
    is-plane 0 w h (λ x y. get_or s (y * w + x) 0) (take (w * h) s) (length-take-le (w * h) s inside)
    (λ x y a b. get_or-take (w * h) s (y * w + x) 0 (place-lt x y w h a b))

-- and these are inside it
pub in_one-fits : (s : List ℕ) (w h : ℕ) → ((y : ℕ) → y < h → y * w + w ≤ length s) → w * h ≤ length s
in_one-fits s w zero rows = omega arith
in_one-fits s w (suc h) rows = omega (arith, rows h (omega arith))

-- its bytes are those of the plane
pub packed-bytes : (s : List ℕ) (w h stride : ℕ) → ((i : ℕ) → get_or s i 0 < 256) → (i : ℕ) → i < length (packed s w h stride) → get_or (packed s w h stride) i 0 < 256
unfolding packed
packed-bytes s w h stride bytes i b =
    rw (get_d_tabulate (w * h) (λ i. get_or s (i / w * stride + i % w) 0) 0 i (omega (arith, packed-length s w h stride))) (bytes _)
