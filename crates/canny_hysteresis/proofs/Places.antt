-- A sweep over all inner places is a sweep over the list of those that were weak at first: a visit changes no other place, and makes
-- no place weak.
use mathlib.Core.Path.{◌≡◌, refl, sym, ap, ◌∙◌}
use mathlib.Core.Bool.{Bool, true, false, cond, ◌&&◌}
use mathlib.Core.List.{List, [], ◌∷◌, ◌++◌, map, reverse, append-nil}
use Prim.Native.Nat.{ℕ, zero, suc, ◌+◌, ◌-◌, ◌*◌, ◌≤◌, ◌<◌}
use native.Mathlib.Numerals.{add-one}
use native.Mathlib.Decide.{ℕ_discrete, dec_lt}
use native.Mathlib.Omega.{arith}
use lib.Dec.{eqb}
use lib.IntN.{ℤ, pos, nat_abs}
use lib.ListN.{length, get_or, take, drop, length-drop, length-map, get_or-map}
use lib.Seq.{get_or-drop, get_or-set_other, set-get_or}
use borrow.Author.Tests.{eqb-false, ne_eqb}
use Rattle.std.specs.List.{fold, filter, All}
use Rattle.std.proofs.lemmas.List.{reverse-append}
use Rattle.std.proofs.lemmas.List.Elements.{filter-append, All-append, All-filter}
use Rattle.std.proofs.lemmas.List.Sums.{fold-append}
use Rattle.laws.specs.Steps.{steps}
use Rattle.laws.proofs.Grid.{row-end}
use Rattle.laws.proofs.Stepped.{Stepped, stepped-more}
use Rattle.canny_hysteresis.specs.declared.Way.{Way}
use Rattle.canny_hysteresis.specs.declared.Way.TheVariants.{Forward, Backward}
use Rattle.canny_hysteresis.specs.Sweeps.{place, upper, lower, any_strong, visit, rising, falling, sweep_row, sweep, round}
use Rattle.canny_hysteresis.specs.Ways.{beside, visit_at, swept}
use Rattle.canny_hysteresis.specs.Places.{weak_from, weak_rows, Added, Inside}
use Rattle.canny_hysteresis.proofs.Listing.{weak-more, none-left}

-- steps that are the same one by one, and the first step apart from the others
steps-same : {A : Type 0} (n : ℕ) (g f : ℕ → A → A) (a : A) → ((i : ℕ) → i < n → (b : A) → g i b ≡ f i b) → steps n g a ≡ steps n f a
unfolding steps
steps-same zero g f a e = refl
steps-same (suc n) g f a e = rw (steps-same n g f a (λ i b. e i (omega arith))) (e n (omega arith) (steps n f a))

steps-first : {A : Type 0} (n : ℕ) (g : ℕ → A → A) (a : A) → steps (suc n) g a ≡ steps n (λ i. g (suc i)) (g 0 a)
unfolding steps
steps-first zero g a = refl
steps-first (suc n) g a = ap (g (suc n)) (steps-first n g a)

-- the lists p 0, p 1, .., p (n - 1), one after the other
abbrev joined : ℕ → (ℕ → List ℕ) → List ℕ
joined zero p = []
joined (suc n) p = joined n p ++ p n

-- n places from a on, and the inner places of the m rows from row 1 on
abbrev row_places : ℕ → ℕ → List ℕ
row_places a n = joined n (λ i. (a + i) ∷ [])

abbrev inner_places : ℕ → ℕ → List ℕ
inner_places w m = joined m (λ j. row_places ((j + 1) * w + 1) (w - 2))

-- what holds of a place alone, and of all places of all parts
all-one : (P : ℕ → Type 0) (i : ℕ) → P i → All P (i ∷ [])
all-one P i p zero d b = p
all-one P i p (suc k) d b = absurd (omega arith)

all-joined : (P : ℕ → Type 0) (n : ℕ) (part : ℕ → List ℕ) → ((i : ℕ) → i < n → All P (part i)) → All P (joined n part)
all-joined P zero part h = λ k d b. absurd (omega arith)
all-joined P (suc n) part h = All-append P (joined n part) (part n) (all-joined P n part (λ i b. h i (omega arith))) (h n (omega arith))

-- numbers as signed ones and back
abs-pos : (ps : List ℕ) → map nat_abs (map pos ps) ≡ ps
abs-pos [] = refl
abs-pos (p ∷ ps) = ap (λ (l : List ℕ). p ∷ l) (abs-pos ps)

-- steps that visit one part of places after the other visit them all, from the first part to the last or from the last to the first
module _ (f : List ℕ → ℕ → List ℕ) where
  rise : (n : ℕ) (part : ℕ → List ℕ) (g : ℕ → List ℕ → List ℕ) → ((i : ℕ) → i < n → (t : List ℕ) → g i t ≡ fold f t (part i))
      → (s : List ℕ) → steps n g s ≡ fold f s (joined n part)
  unfolding steps
  rise zero part g e s = refl
  rise (suc n) part g e s =
      ap (g n) (rise n part g (λ i b. e i (omega arith)) s) ∙ e n (omega arith) (fold f s (joined n part))
      ∙ sym (fold-append f s (joined n part) (part n))

  fall : (n : ℕ) (part : ℕ → List ℕ) (g : ℕ → List ℕ → List ℕ) → ((i : ℕ) → i < n → (t : List ℕ) → g i t ≡ fold f t (reverse (part (n - 1 - i))))
      → (s : List ℕ) → steps n g s ≡ fold f s (reverse (joined n part))
  unfolding steps
  fall zero part g e s = refl
  fall (suc n) part g e s =
      let k : suc n - 1 - 0 ≡ n = omega arith in
      let first : g 0 s ≡ fold f s (reverse (part n)) = rw k at (e 0 (omega arith) s) in
      steps-first n g s
      ∙ fall n part (λ i. g (suc i)) (λ i b t. let q : suc n - 1 - suc i ≡ n - 1 - i = omega arith in rw q at (e (suc i) (omega arith) t)) (g 0 s)
      ∙ rw (reverse-append (joined n part) (part n), first) (sym (fold-append f s (reverse (part n)) (reverse (joined n part))))

-- the four neighbours, by their places
upper-is : (w x y : ℕ) → beside Forward w (place w (x + 1) (y + 1)) ≡ upper w (x + 1) (y + 1)
upper-is w x y =
    let p : x + 1 - 1 ≡ x = omega arith in
    let q : y + 1 - 1 ≡ y = omega arith in
    let a : (y + 1) * w + (x + 1) - w - 1 ≡ y * w + x = omega arith in
    let b : (y + 1) * w + (x + 1) - w ≡ y * w + (x + 1) = omega arith in
    let c : y * w + (x + 1) + 1 ≡ y * w + (x + 1 + 1) = omega arith in
    let d : (y + 1) * w + (x + 1) - 1 ≡ (y + 1) * w + x = omega arith in
    rw (p, q, a, b, c, d) refl

lower-is : (w x y : ℕ) → beside Backward w (place w (x + 1) y) ≡ lower w (x + 1) y
lower-is w x y =
    let p : x + 1 - 1 ≡ x = omega arith in
    let a : y * w + (x + 1) + w + 1 ≡ (y + 1) * w + (x + 1 + 1) = omega arith in
    let b : y * w + (x + 1) + w ≡ (y + 1) * w + (x + 1) = omega arith in
    let c : (y + 1) * w + (x + 1) - 1 ≡ (y + 1) * w + x = omega arith in
    let d : y * w + (x + 1) + 1 ≡ y * w + (x + 1 + 1) = omega arith in
    rw (p, a, b, c, d) refl

-- the sweeps of the definition visit the inner places in their order
forward-all : (w h : ℕ) (s : List ℕ) → sweep upper rising w h s ≡ fold (visit_at Forward w) s (inner_places w (h - 2))
unfolding sweep sweep_row
forward-all w h s =
    rise (visit_at Forward w) (h - 2) (λ j. row_places ((j + 1) * w + 1) (w - 2)) (λ j. sweep_row upper rising w (j + 1))
    (λ j b. rise (visit_at Forward w) (w - 2) (λ i. ((j + 1) * w + 1 + i) ∷ []) (λ i. visit (place w (i + 1) (j + 1)) (upper w (i + 1) (j + 1)))
    (λ i k t.
    let p : place w (i + 1) (j + 1) ≡ (j + 1) * w + 1 + i = omega arith in
    rw (← upper-is w i j, p) refl)) s

backward-row : (w y : ℕ) (s : List ℕ) → sweep_row lower falling w y s ≡ fold (visit_at Backward w) s (reverse (row_places (y * w + 1) (w - 2)))
unfolding sweep_row
backward-row w y s =
    fall (visit_at Backward w) (w - 2) (λ i. (y * w + 1 + i) ∷ []) (λ i. visit (place w (w - 2 - i) y) (lower w (w - 2 - i) y))
    (λ i k t.
    let x : w - 2 - i ≡ w - 2 - 1 - i + 1 = omega arith in
    let p : place w (w - 2 - 1 - i + 1) y ≡ y * w + 1 + (w - 2 - 1 - i) = omega arith in
    rw (x, ← lower-is w (w - 2 - 1 - i) y, p) refl) s

backward-all : (w h : ℕ) (s : List ℕ) → sweep lower falling w h s ≡ fold (visit_at Backward w) s (reverse (inner_places w (h - 2)))
unfolding sweep
backward-all w h s =
    fall (visit_at Backward w) (h - 2) (λ j. row_places ((j + 1) * w + 1) (w - 2)) (λ j. sweep_row lower falling w (h - 2 - j))
    (λ j b t.
    let y : h - 2 - j ≡ h - 2 - 1 - j + 1 = omega arith in
    rw y (backward-row w (h - 2 - 1 - j + 1) t)) s

-- the places that are weak in s
abbrev weak_at : List ℕ → ℕ → Bool
weak_at s i = eqb (get_or s i 0) 1

-- a place that is weak in s was weak in s₀
record Fewer (s₀ s : List ℕ) : Type 0 where
  weak : (p : ℕ) → get_or s p 0 ≡ 1 → get_or s₀ p 0 ≡ 1

-- a visit changes nothing at a place that is not weak
idle : (s : List ℕ) (i : ℕ) (beside : List ℕ) → (get_or s i 0 ≡ 1 → ⊥) → visit i beside s ≡ s
unfolding visit
idle s i beside p = rw (ne_eqb (get_or s i 0) 1 p) (set-get_or s i 0)

fewer-visit : {s₀ s : List ℕ} (i : ℕ) (beside : List ℕ) → Fewer s₀ s → Fewer s₀ (visit i beside s)
unfolding visit
fewer-visit {s₀} {s} i beside F = go (ℕ_discrete (get_or s i 0) 1)
  where
    go : Dec (get_or s i 0 ≡ 1) → Fewer s₀ (visit i beside s)
    go (no n) = rw (idle s i beside n) F
    go (yes e) = record { weak = λ p q. at p q (ℕ_discrete p i) }
      where
        at : (p : ℕ) → get_or (visit i beside s) p 0 ≡ 1 → Dec (p ≡ i) → get_or s₀ p 0 ≡ 1
        at p q (yes k) = rw k (F.weak i e)
        at p q (no k) = F.weak p (sym (get_or-set_other s i p (cond (eqb (get_or s i 0) 1 && any_strong s beside) 2 (get_or s i 0)) 0 k) ∙ q)

-- so only the places that were weak at first need be visited
module _ (way : Way) (w : ℕ) (s₀ : List ℕ) where
  fewer-fold : (ps s : List ℕ) → Fewer s₀ s → Fewer s₀ (fold (visit_at way w) s ps)
  fewer-fold [] s F = F
  fewer-fold (p ∷ ps) s F = fewer-fold ps (visit_at way w s p) (fewer-visit p (beside way w p) F)

  filtered : (ps s : List ℕ) → Fewer s₀ s → fold (visit_at way w) s (filter (weak_at s₀) ps) ≡ fold (visit_at way w) s ps
  filtered [] s F = refl
  filtered (p ∷ ps) s F = go (weak_at s₀ p) refl (filtered ps)
    where
      go : (b : Bool) → weak_at s₀ p ≡ b → ((s : List ℕ) → Fewer s₀ s → fold (visit_at way w) s (filter (weak_at s₀) ps) ≡ fold (visit_at way w) s ps)
          → fold (visit_at way w) s (cond b (p ∷ filter (weak_at s₀) ps) (filter (weak_at s₀) ps)) ≡ fold (visit_at way w) (visit_at way w s p) ps
      go true e more = more (visit_at way w s p) (fewer-visit p (beside way w p) F)
      go false e more =
          rw (idle s p (beside way w p) (λ q. eqb-false (get_or s₀ p 0) 1 e (F.weak p q))) (more s F)

filter-reverse : (p : ℕ → Bool) (xs : List ℕ) → filter p (reverse xs) ≡ reverse (filter p xs)
filter-reverse p [] = refl
filter-reverse p (x ∷ xs) =
    ap (filter p) (reverse-append (x ∷ []) xs) ∙ filter-append p (reverse xs) (x ∷ []) ∙ rw (filter-reverse p xs) (go (p x))
  where
    go : (b : Bool) → reverse (filter p xs) ++ cond b (x ∷ []) [] ≡ reverse (cond b (x ∷ filter p xs) (filter p xs))
    go true = sym (reverse-append (x ∷ []) (filter p xs))
    go false = append-nil (reverse (filter p xs))

-- the list has the weak ones of the inner places
row-weak : (s : List ℕ) (a n : ℕ) → a + n ≤ length s → weak_from a (take n (drop a s)) ≡ filter (weak_at s) (row_places a n)
unfolding weak_from
row-weak s a zero h = refl
row-weak s a (suc n) h =
    let e = weak-more a (drop a s) n (omega (arith, length-drop a s)) in
    ap (λ (k : ℕ). weak_from a (take k (drop a s))) (sym (add-one n)) ∙ e
    ∙ rw (get_or-drop a s n 0, row-weak s a n (omega arith)) (sym (filter-append (weak_at s) (row_places a n) ((a + n) ∷ [])))

module _ (s : List ℕ) (w h : ℕ) (size : length s ≡ w * h) where
  rows-weak : (m : ℕ) → m ≤ h - 2 → weak_rows s w m ≡ filter (weak_at s) (inner_places w m)
  unfolding weak_rows
  rows-weak zero b = refl
  rows-weak (suc m) b =
      rw (rows-weak m (omega arith), row m (omega arith)) (sym (filter-append (weak_at s) (inner_places w m) (row_places ((m + 1) * w + 1) (w - 2))))
    where
      row : (m : ℕ) → m < h - 2 → weak_from ((m + 1) * w + 1) (take (w - 2) (drop ((m + 1) * w + 1) s)) ≡ filter (weak_at s) (row_places ((m + 1) * w + 1) (w - 2))
      row m b = go (dec_lt w 3)
        where
          go : Dec (w < 3) → weak_from ((m + 1) * w + 1) (take (w - 2) (drop ((m + 1) * w + 1) s)) ≡ filter (weak_at s) (row_places ((m + 1) * w + 1) (w - 2))
          go (yes k) = let z : w - 2 ≡ 0 = omega arith in rw z (none-left ((m + 1) * w + 1) [] refl)
          go (no k) = row-weak s ((m + 1) * w + 1) (w - 2) (omega (arith, row-end (m + 1) w h (omega arith)))

  -- all of them have their neighbours in the plane
  inside : All (λ i. (w + 1 ≤ i) × (i + w + 1 < w * h)) (weak_rows s w (h - 2))
  inside =
      rw (rows-weak (h - 2) (omega arith))
      (All-filter (weak_at s) (λ i. (w + 1 ≤ i) × (i + w + 1 < w * h)) (inner_places w (h - 2))
      (all-joined (λ i. (w + 1 ≤ i) × (i + w + 1 < w * h)) (h - 2) (λ j. row_places ((j + 1) * w + 1) (w - 2))
      (λ j b. all-joined (λ i. (w + 1 ≤ i) × (i + w + 1 < w * h)) (w - 2) (λ i. ((j + 1) * w + 1 + i) ∷ [])
      (λ i k. all-one (λ i. (w + 1 ≤ i) × (i + w + 1 < w * h)) ((j + 1) * w + 1 + i)
      (omega arith, omega (arith, row-end (j + 2) w h (omega arith)))))))

  -- where t has no weak places but those of s that s had at first: sweeps over the list are those of the definition
  forward-is : (t : List ℕ) → Fewer s t → swept Forward w (weak_rows s w (h - 2)) t ≡ sweep upper rising w h t
  forward-is t F = rw (rows-weak (h - 2) (omega arith)) (filtered Forward w s (inner_places w (h - 2)) t F ∙ sym (forward-all w h t))

  backward-is : (t : List ℕ) → Fewer s t → swept Backward w (weak_rows s w (h - 2)) t ≡ sweep lower falling w h t
  backward-is t F =
      let ps = inner_places w (h - 2) in
      rw (rows-weak (h - 2) (omega arith), ← filter-reverse (weak_at s) ps) (filtered Backward w s (reverse ps) t F ∙ sym (backward-all w h t))

  fewer-round : (t : List ℕ) → Fewer s t → Fewer s (round w h t)
  unfolding round
  fewer-round t F =
      let ps = inner_places w (h - 2) in
      rw (forward-all w h t, backward-all w h (fold (visit_at Forward w) t ps))
      (fewer-fold Backward w s (reverse ps) (fold (visit_at Forward w) t ps) (fewer-fold Forward w s ps t F))

  fewer-rounds : (k : ℕ) → Fewer s (steps k (λ i. round w h) s)
  unfolding steps
  fewer-rounds zero = record { weak = λ p e. e }
  fewer-rounds (suc k) = fewer-round (steps k (λ i. round w h) s) (fewer-rounds k)

  forward-fewer : (t : List ℕ) → Fewer s t → Fewer s (sweep upper rising w h t)
  forward-fewer t F = rw (forward-all w h t) (fewer-fold Forward w s (inner_places w (h - 2)) t F)

  module _ {l₀ l : List ℤ} {n : ℕ} (A : Added 0 l₀ (weak_rows s w (h - 2)) l n) where
    listed-are : map nat_abs (take n l) ≡ weak_rows s w (h - 2)
    listed-are = rw (A.listed) (abs-pos (weak_rows s w (h - 2)))

    -- one round more
    pub rounds-more : {k : ℕ} {t u v : List ℕ} → Stepped (λ i. round w h) s k t → u ≡ swept Forward w (map nat_abs (take n l)) t
        → v ≡ swept Backward w (map nat_abs (take n l)) u → Stepped (λ i. round w h) s (k + 1) v
    unfolding round
    rounds-more {k} {t} {u} {v} S e q =
        let F : Fewer s t = rw S.at (fewer-rounds k) in
        let p : u ≡ sweep upper rising w h t = e ∙ rw listed-are (forward-is t F) in
        stepped-more S refl (q ∙ rw (listed-are, p) (backward-is (sweep upper rising w h t) (forward-fewer t F)))

    pub all-inside : (k : ℕ) → k < length (take n l) → Inside w (w * h) (get_or (take n l) k (pos 0))
    all-inside k b =
        let ps = weak_rows s w (h - 2) in
        let few : k < length ps = rw (A.listed, length-map ps pos) at b in
        let p : w + 1 ≤ get_or ps k 0 × get_or ps k 0 + w + 1 < w * h = inside k 0 few in
        rw (A.listed, get_or-map pos ps k 0) (refl, p.0, p.1)
