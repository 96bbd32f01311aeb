-- Sums taken in parts, and the sum of the differences of two planes by rows and by pieces.
use mathlib.Core.Path.{◌≡◌, refl, sym, ap, ◌∙◌}
use mathlib.Core.List.{List, ◌∷◌, ◌++◌}
use Prim.Native.Nat.{ℕ, zero, suc, ◌+◌, ◌-◌, ◌*◌, ◌/◌, ◌%◌, ◌<◌, ◌≤◌}
use native.Mathlib.Omega.{arith}
use lib.ListN.{length, take, drop, length-drop, get_or, get_or-append, replicate, length-replicate, get_or-replicate}
use lib.Seq.{get_or-take, get_or-drop, get_or-append-add, length-take-le, take_at, drop_at}
use borrow.Rule.Slice.PartMut.{put_mid}
use Rattle.std.proofs.lemmas.List.{take_rest, drop_all, take-replicate, append-nil, length-append}
use Rattle.laws.specs.Lists.{tabulate, sum}
use Rattle.laws.proofs.Sums.{sum_bound}
use Rattle.laws.proofs.Grid.{col-lt, place}
use Rattle.laws.proofs.Tab.{length-tabulate, get_d_tabulate, is-tabulate}
use Rattle.laws.proofs.Parts.{get_d_part, length_part}
use Rattle.laws.proofs.Planes.{width, get_d-plane}
use Rattle.arch_planes.specs.Difference.{dist, sum_abs_diff}
use Rattle.arch_planes.specs.Packed.{packed}

-- the difference of two bytes is a byte
pub difference_bound : (s t : List ℕ) → ((i : ℕ) → get_or s i 0 < 256) → ((i : ℕ) → get_or t i 0 < 256) → sum_abs_diff s t ≤ 255 * length s
unfolding sum_abs_diff
difference_bound s t p q = omega (arith, sum_bound (length s) 255 (λ i. dist (get_or s i 0) (get_or t i 0)) (λ i b. omega (arith, p i, q i)))

sum-same : (n : ℕ) (f g : ℕ → ℕ) → ((i : ℕ) → i < n → f i ≡ g i) → sum n f ≡ sum n g
unfolding sum
sum-same zero f g h = refl
sum-same (suc n) f g h = omega (arith, sum-same n f g (λ i b. h i (omega arith)), h n (omega arith))

sum-add : (m n : ℕ) (f : ℕ → ℕ) → sum (m + n) f ≡ sum m f + sum n (λ j. f (m + j))
unfolding sum
sum-add m zero f = let e : m + 0 ≡ m = omega arith in rw e (omega arith)
sum-add m (suc n) f = let e : m + suc n ≡ suc (m + n) = omega arith in rw e (omega (arith, sum-add m n f))

-- rows that all take the same zeros
pub zeros_packed : (n w h : ℕ) → w ≤ n → packed (replicate n 0) w h 0 ≡ tabulate (w * h) (λ _. 0)
unfolding packed
zeros_packed n w h e =
    let f : ℕ → ℕ = λ i. get_or (replicate n 0) ((i / w) * 0 + i % w) 0 in
    is-tabulate 0 (tabulate (w * h) f) (w * h) (λ _. 0) (length-tabulate (w * h) f)
    (λ i b. get_d_tabulate (w * h) f 0 i b ∙ get_or-replicate {A = ℕ} n ((i / w) * 0 + i % w) 0 0 (omega (arith, col-lt i w h b)))

-- rows that lie one after the other are one piece
pub close_packed : (src : List ℕ) (w h : ℕ) → w * h ≤ length src → packed src w h w ≡ take (w * h) src
unfolding packed
close_packed src w h inside =
    sym
    (is-tabulate 0 (take (w * h) src) (w * h) (λ i. get_or src ((i / w) * w + i % w) 0) (length-take-le (w * h) src inside)
    (λ i b. get_or-take (w * h) src i 0 b ∙ ap (λ (k : ℕ). get_or src k 0) (sym (place i w))))

-- and end where the last of them ends
pub close_end : (w h n : ℕ) → ((y : ℕ) → y < h → y * w + w ≤ n) → w * h ≤ n
close_end w zero n p = omega arith
close_end w (suc h) n p = omega (arith, p h (omega arith))

-- a part of a run of zeros, and zeros after zeros
pub zeros_taken : (n m : ℕ) → n ≤ m → take {A = ℕ} n (replicate m 0) ≡ tabulate n (λ _. 0)
zeros_taken n m b =
    take-replicate {X = ℕ} n m 0 b ∙ is-tabulate 0 (replicate n 0) n (λ _. 0) (length-replicate n 0) (λ i h. get_or-replicate {A = ℕ} n i 0 0 h)

pub zeros_joined : (m n k : ℕ) → m + n ≡ k → ◌++◌ {A = ℕ} (tabulate m (λ _. 0)) (tabulate n (λ _. 0)) ≡ tabulate k (λ _. 0)
unfolding tabulate
zeros_joined zero n k e = let z : n ≡ k = omega (arith, e) in rw z refl
zeros_joined (suc m) n k e = let z : k ≡ suc (m + n) = omega (arith, e) in rw z (ap (λ (l : List ℕ). 0 ∷ l) (zeros_joined m n (m + n) refl))

-- the differences below place n
abbrev pub below : List ℕ → List ℕ → ℕ → ℕ
below s t n = sum n (λ i. dist (get_or s i 0) (get_or t i 0))

pub below_none : (s t : List ℕ) → 0 ≡ below s t 0
unfolding sum
below_none s t = refl

pub below_all : (s t : List ℕ) (n : ℕ) → n ≡ length s → below s t n ≡ sum_abs_diff s t
unfolding sum_abs_diff
below_all s t n e = rw e

-- one more part: the differences of the w places from a on, added to those below a
part_more : (s t row part : List ℕ) (a w r : ℕ) → length row ≡ w
    → ((j : ℕ) → j < w → get_or row j 0 ≡ get_or s (a + j) 0) → ((j : ℕ) → j < w → get_or part j 0 ≡ get_or t (a + j) 0)
    → r ≡ sum_abs_diff row part → below s t a + r ≡ below s t (a + w)
unfolding sum_abs_diff
part_more s t row part a w r n p q e =
    let f : ℕ → ℕ = λ i. dist (get_or s i 0) (get_or t i 0) in
    let same : sum w (λ j. dist (get_or row j 0) (get_or part j 0)) ≡ sum w (λ j. f (a + j)) = sum-same w _ _ (λ j b. rw (p j b, q j b)) in
    let e₁ : r ≡ sum w (λ j. dist (get_or row j 0) (get_or part j 0)) = rw n at e in
    omega (arith, e₁, same, sum-add a w f)

-- the same of parts at one place
pub below_more : (s t : List ℕ) (a w r : ℕ) → a + w ≤ length s → r ≡ sum_abs_diff (take w (drop a s)) (take w (drop a t)) → below s t a + r ≡ below s t (a + w)
below_more s t a w r inside e =
    part_more s t (take w (drop a s)) (take w (drop a t)) a w r (length_part a w s inside) (λ j k. get_d_part a w s j 0 k) (λ j k. get_d_part a w t j 0 k) e

-- the differences in the first y rows
abbrev pub above : List ℕ → List ℕ → (w h stride y : ℕ) → ℕ
above src dst w h stride y = below (packed src w h stride) dst (y * w)

pub above_none : (src dst : List ℕ) (w h stride : ℕ) → 0 ≡ above src dst w h stride 0
unfolding sum
above_none src dst w h stride = let z : 0 * w ≡ 0 = omega arith in rw z refl

-- one more row replaced: of src the part from y * stride on, of dst, which is dst₀ from row y on, the part from y * w on
pub above_more : (src dst₀ dst : List ℕ) (w h stride y r : ℕ) → y < h → y * stride + w ≤ length src → ((k : ℕ) → y * w ≤ k → get_or dst k 0 ≡ get_or dst₀ k 0)
    → r ≡ sum_abs_diff (take (y * stride + w - y * stride) (drop (y * stride) src)) (take (y * w + w - y * w) (drop (y * w) dst))
    → above src dst₀ w h stride y + r ≡ above src dst₀ w h stride (y + 1)
unfolding packed
above_more src dst₀ dst w h stride y r b inside rest e =
    let next : (y + 1) * w ≡ y * w + w = omega arith in
    rw next
    (part_more (packed src w h stride) dst₀ (take w (drop (y * stride) src)) (take w (drop (y * w) dst)) (y * w) w r
    (length_part (y * stride) w src inside)
    (λ j k. get_d_part (y * stride) w src j 0 k ∙ sym (get_d-plane 0 w h (λ x v. get_or src (v * stride + x) 0) j y k b))
    (λ j k. get_d_part (y * w) w dst j 0 k ∙ rest (y * w + j) (omega arith))
    (rw (width (y * stride) w, width (y * w) w) at e))

-- all rows
pub above_all : (src dst : List ℕ) (w h stride y : ℕ) → y ≡ h → above src dst w h stride y ≡ sum_abs_diff (packed src w h stride) dst
unfolding packed sum_abs_diff
above_all src dst w h stride y e =
    let n : length (packed src w h stride) ≡ w * h = length-tabulate (w * h) _ in
    let m : h * w ≡ w * h = omega arith in
    rw (e, n, m) refl

-- of two pieces, one after the other
two_pieces : (s₁ s₂ t : List ℕ) (n x y : ℕ) → length s₁ ≡ n → x ≡ sum_abs_diff s₁ (take n t) → y ≡ sum_abs_diff s₂ (drop n t) → x + y ≡ sum_abs_diff (s₁ ++ s₂) t
unfolding sum_abs_diff
two_pieces s₁ s₂ t n x y e p q =
    let f : ℕ → ℕ = λ i. dist (get_or (s₁ ++ s₂) i 0) (get_or t i 0) in
    let first : sum n (λ i. dist (get_or s₁ i 0) (get_or (take n t) i 0)) ≡ sum n f =
    sum-same n _ _ (λ i b. rw (get_or-append s₁ s₂ 0 i (omega (arith, e)), get_or-take n t i 0 b) refl) in
    let after : (j : ℕ) → get_or (s₁ ++ s₂) (n + j) 0 ≡ get_or s₂ j 0 = rw (sym e) (λ j. get_or-append-add s₁ s₂ j 0) in
    let second : sum (length s₂) (λ i. dist (get_or s₂ i 0) (get_or (drop n t) i 0)) ≡ sum (length s₂) (λ j. f (n + j)) =
    sum-same (length s₂) _ _ (λ j b. rw (after j, get_or-drop n t j 0) refl) in
    let long : length (s₁ ++ s₂) ≡ n + length s₂ = omega (arith, length-append s₁ s₂, e) in
    rw long (omega (arith, rw e at p, q, first, second, sum-add n (length s₂) f))

-- the same of t where the first piece has become s₁ when the second is compared
pub pieces_summed : (s₁ s₂ s t new : List ℕ) (n x y : ℕ) → length s₁ ≡ n → s₁ ++ s₂ ≡ s → new ≡ s₁ → x ≡ sum_abs_diff s₁ (take n t)
    → y ≡ sum_abs_diff s₂ (take (length (new ++ drop n t) - n) (drop n (new ++ drop n t))) → x + y ≡ sum_abs_diff s t
pieces_summed s₁ s₂ s t new n x y e whole z p q =
    let rest = take_rest (new ++ drop n t) n ∙ drop_at new (drop n t) n (rw z e) in
    let both = two_pieces s₁ s₂ t n x y e p (rw rest at q) in
    rw whole at both

-- and t in the end
pub pieces_put : (s₁ s₂ s t new back : List ℕ) (n : ℕ) → length s₁ ≡ n → s₁ ++ s₂ ≡ s → new ≡ s₁ → back ≡ s₂
    → put_mid n (length (new ++ drop n t) - n) (new ++ drop n t) back ≡ s
pieces_put s₁ s₂ s t new back n e whole z p =
    let front = take_at s₁ (drop n t) n e in
    let none = drop_all (length (s₁ ++ drop n t) - n) (drop n (s₁ ++ drop n t)) (omega (arith, length-drop n (s₁ ++ drop n t))) in
    rw (z, p, front, none, append-nil s₂) whole
