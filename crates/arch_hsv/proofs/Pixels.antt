-- Pixels by their V, D and sixths, up to 256 at a time, and a row of them. Assumes nothing.
use mathlib.Core.Path.{◌≡◌, refl, sym, ap, ◌∙◌}
use mathlib.Core.List.{List, [], ◌++◌}
use Prim.Native.Nat.{ℕ, zero, suc, ◌+◌, ◌-◌, ◌*◌, ◌/◌, ◌≤◌, ◌<◌, min}
use native.Mathlib.Nat.{add-zero, add-suc, add_assoc}
use native.Mathlib.Numerals.{add-one}
use native.Mathlib.Omega.{arith}
use lib.ListN.{length, take, drop, get_or, set, length-drop}
use Rattle.std.specs.Simd.{first_chunks}
use lib.Seq.{get_or-take, get_or-drop, take_at, drop_at, drop-drop}
use Rattle.laws.proofs.Parts.{get_d_part}
use Rattle.laws.proofs.Tab.{Filled}
use Rattle.arch_hsv.specs.Hsv.{rounded, value, delta, hue, saturation}
use Rattle.arch_hsv.specs.Rows.{of_pixel, row_stored}
use Rattle.arch_hsv.specs.Blocks.{sixths, FirstAre, Bounded, parts_stored}
use Rattle.arch_hsv.proofs.Reading.{spread}
use Rattle.arch_hsv.proofs.ByCases.{hue-is, saturation-is, sixths-le}

pub first-are : {f : ℕ → ℕ} {m i : ℕ} {l : List ℕ} → Filled 0 f 256 i l → m ≤ i → FirstAre f m l
first-are F h = record { size = F.len; done = λ x b. F.done x (omega arith) }

pub bounded : (row : List ℕ) {v d k : List ℕ} {m : ℕ} → FirstAre (of_pixel value row) m v → FirstAre (of_pixel delta row) m d → FirstAre (of_pixel sixths row) m k
    → (x : ℕ) → x < m → Bounded v d k x
bounded row hv hd hk x h =
    let b = get_or row (3 * x) 0 in
    let g = get_or row (3 * x + 1) 0 in
    let r = get_or row (3 * x + 2) 0 in
    let ev = hv.done x h in
    let ed = hd.done x h in
    let ek = hk.done x h in
    record { small = rw (ev, ed) (spread b g r).small; circle = rw (ek, ed) (sixths-le b g r) }

-- one more pixel
pub parts_more : (out v d k l : List ℕ) (first n x h s : ℕ) → l ≡ parts_stored out v d k first n x → h ≡ min 179 (rounded (30 * get_or k x 0) (get_or d x 0))
    → s ≡ rounded (255 * get_or d x 0) (get_or v x 0)
    → set (set (set l (first + x) h) (n + (first + x)) s) (n + (n + (first + x))) (get_or v x 0) ≡ parts_stored out v d k first n (x + 1)
unfolding parts_stored
parts_more out v d k l first n x h s e p q = rw (add-one x, e, p, q)

-- by their parts they are what the definition has
pub parts-row : (out row v d k : List ℕ) (first n m : ℕ) → FirstAre (of_pixel value row) m v → FirstAre (of_pixel delta row) m d → FirstAre (of_pixel sixths row) m k
    → (i : ℕ) → i ≤ m → parts_stored out v d k first n i ≡ row_stored out row first n i
unfolding parts_stored row_stored
parts-row out row v d k first n m hv hd hk zero h = refl
parts-row out row v d k first n m hv hd hk (suc x) h =
    let b = get_or row (3 * x) 0 in
    let g = get_or row (3 * x + 1) 0 in
    let r = get_or row (3 * x + 2) 0 in
    let ev = hv.done x (omega arith) in
    let ed = hd.done x (omega arith) in
    let ek = hk.done x (omega arith) in
    rw (parts-row out row v d k first n m hv hd hk x (omega arith), ev, ed, ek, hue-is b g r, saturation-is b g r)

-- byte j of pixel x, of the n pixels that a row is cut into
pub pixel-byte : (row : List ℕ) (n x j : ℕ) → x < n → j < 3 → get_or (get_or (first_chunks 3 n row) x []) j 0 ≡ get_or row (3 * x + j) 0
pixel-byte row zero x j h b = absurd (omega arith)
pixel-byte row (suc n) zero j h b = get_or-take 3 row j 0 b ∙ ap (λ (i : ℕ). get_or row i 0) (omega arith)
pixel-byte row (suc n) (suc x) j h b = pixel-byte (drop 3 row) n x j (omega arith) b ∙ get_or-drop 3 row (3 * x + j) 0 ∙ ap (λ (i : ℕ). get_or row i 0) (omega arith)

-- F of pixel x
pub pixel-is : (F : ℕ → ℕ → ℕ → ℕ) (row : List ℕ) (pixels : List (List ℕ)) (n x v : ℕ) → pixels ≡ first_chunks 3 n row → x < n
    → v ≡ F (get_or (get_or pixels x []) 0 0) (get_or (get_or pixels x []) 1 0) (get_or (get_or pixels x []) 2 0) → v ≡ of_pixel F row x
pixel-is F row pixels n x v e h q =
    let p : v ≡ F (get_or (get_or (first_chunks 3 n row) x []) 0 0) (get_or (get_or (first_chunks 3 n row) x []) 1 0) (get_or (get_or (first_chunks 3 n row) x []) 2 0) = rw e at q in
    let first = pixel-byte row n x 0 h (omega arith) ∙ ap (λ (i : ℕ). get_or row i 0) (add-zero (3 * x)) in
    p ∙ rw (first, pixel-byte row n x 1 h (omega arith), pixel-byte row n x 2 h (omega arith))

-- m pixels more, which are those of row from x on
module _ (out row p : List ℕ) (first n x : ℕ) where
  abbrev Same : ℕ → Type 0
  Same m = (F : ℕ → ℕ → ℕ → ℕ) (j : ℕ) → j < m → of_pixel F p j ≡ of_pixel F row (x + j)

  pub row-joined : (m : ℕ) → Same m → row_stored (row_stored out row first n x) p (first + x) n m ≡ row_stored out row first n (x + m)
  unfolding row_stored
  row-joined zero h = rw (add-zero x)
  row-joined (suc m) h =
      let at : first + x + m ≡ first + (x + m) = add_assoc first x m in
      rw (add-suc x m, row-joined m (λ F j b. h F j (omega arith)), at, h hue m (omega arith), h saturation m (omega arith), h value m (omega arith))

-- pixel j of the part that starts at pixel x
pub part_same : (row : List ℕ) (x m : ℕ) (F : ℕ → ℕ → ℕ → ℕ) (j : ℕ) → j < m → of_pixel F (take (3 * m) (drop (3 * x) row)) j ≡ of_pixel F row (x + j)
part_same row x m F j h =
    let b = get_d_part (3 * x) (3 * m) row (3 * j) 0 (omega arith) in
    let g = get_d_part (3 * x) (3 * m) row (3 * j + 1) 0 (omega arith) in
    let r = get_d_part (3 * x) (3 * m) row (3 * j + 2) 0 (omega arith) in
    let e₀ : 3 * x + 3 * j ≡ 3 * (x + j) = omega arith in
    let e₁ : 3 * x + (3 * j + 1) ≡ 3 * (x + j) + 1 = omega arith in
    let e₂ : 3 * x + (3 * j + 2) ≡ 3 * (x + j) + 2 = omega arith in
    rw (b, g, r, e₀, e₁, e₂)

-- a row up to pixel x, and then the next m by their parts
pub block-joined : (out row p l e v d k : List ℕ) (first n x m : ℕ) → p ≡ take (3 * m) (drop (3 * x) row) → l ≡ row_stored out row first n x
    → FirstAre (of_pixel value p) m v → FirstAre (of_pixel delta p) m d → FirstAre (of_pixel sixths p) m k → e ≡ parts_stored l v d k (first + x) n m
    → e ≡ row_stored out row first n (x + m)
block-joined out row p l e v d k first n x m ep el hv hd hk ee =
    ee
    ∙ parts-row l p v d k (first + x) n m hv hd hk m (omega arith)
    ∙ rw (el, ep) (row-joined out row (take (3 * m) (drop (3 * x) row)) first n x m (part_same row x m))

-- what a loop over the blocks of a row knows before each: l has the pixels before place `at` stored, and rest is what is left of the row
pub record RowSoFar (out row : List ℕ) (first n at : ℕ) (l rest : List ℕ) : Type 0 where
  pub place : first ≤ at
  pub within : 3 * (at - first) ≤ length row
  pub left : rest ≡ drop (3 * (at - first)) row
  pub size : length l ≡ length out
  pub stored : l ≡ row_stored out row first n (at - first)

pub row_none : (out row : List ℕ) (first n : ℕ) {rest : List ℕ} → rest ≡ row → RowSoFar out row first n first out rest
unfolding row_stored
row_none out row first n e =
    let z : first - first ≡ 0 = omega arith in
    record {
      place = omega arith;
      within = omega arith;
      left = rw z e;
      size = refl;
      stored = rw z refl;
    }

-- a block p is whole pixels, and stands in the row
pub block-pixels : {out row : List ℕ} {first n at : ℕ} {l rest : List ℕ} (p more : List ℕ) → RowSoFar out row first n at l rest → length row ≡ 3 * (length row / 3)
    → rest ≡ p ++ more → length p ≡ min 768 (length rest) → (length p ≡ 3 * (length p / 3)) × (3 * (at - first) + length p ≤ length row)
block-pixels {out} {row} {first} {n} {at} {l} {rest} p more R whole e size =
    let left : length rest ≡ length row - 3 * (at - first) = ap length R.left ∙ length-drop (3 * (at - first)) row in
    (omega (arith, R.within), omega (arith, R.within))

-- one more block
pub row-block : {out row : List ℕ} {first n at : ℕ} {l rest : List ℕ} (p more e v d k : List ℕ) → RowSoFar out row first n at l rest → length row ≡ 3 * (length row / 3)
    → rest ≡ p ++ more → length p ≡ min 768 (length rest)
    → FirstAre (of_pixel value p) (length p / 3) v → FirstAre (of_pixel delta p) (length p / 3) d → FirstAre (of_pixel sixths p) (length p / 3) k
    → length e ≡ length l → e ≡ parts_stored l v d k at n (length p / 3)
    → RowSoFar out row first n (at + length p / 3) e more
row-block {out} {row} {first} {n} {at} {l} {rest} p more e v d k R whole split size hv hd hk same stored =
    let x = at - first in
    let m = length p / 3 in
    let b = block-pixels p more R whole split size in
    let here : first + x ≡ at = omega (arith, R.place) in
    let next : at + m - first ≡ x + m = omega (arith, R.place) in
    let both : p ++ more ≡ drop (3 * x) row = sym split ∙ R.left in
    let part : p ≡ take (3 * m) (drop (3 * x) row) = sym (take_at p more (3 * m) b.0) ∙ ap (λ (t : List ℕ). take (3 * m) t) both in
    let after : more ≡ drop (3 * (x + m)) row =
    let sum : 3 * x + length p ≡ 3 * (x + m) = omega (arith, b.0) in
    sym (drop_at p more (length p) refl) ∙ ap (λ (t : List ℕ). drop (length p) t) both ∙ drop-drop (length p) (3 * x) row ∙ ap (λ (i : ℕ). drop i row) sum in
    record {
      place = omega (arith, R.place);
      within = rw next (omega (arith, b.0, b.1));
      left = rw next after;
      size = same ∙ R.size;
      stored = rw next (block-joined out row p l e v d k first n x m part R.stored hv hd hk (rw here stored));
    }

-- all of them
pub row_all : {out row : List ℕ} {first n at : ℕ} {l rest : List ℕ} → RowSoFar out row first n at l rest → length rest ≡ 0 → l ≡ row_stored out row first n (length row / 3)
row_all {out} {row} {first} {n} {at} {l} {rest} R z =
    let none : length row - 3 * (at - first) ≡ 0 = sym (length-drop (3 * (at - first)) row) ∙ sym (ap length R.left) ∙ z in
    let x : at - first ≡ length row / 3 = omega (arith, R.within) in
    R.stored ∙ ap (λ (i : ℕ). row_stored out row first n i) x
