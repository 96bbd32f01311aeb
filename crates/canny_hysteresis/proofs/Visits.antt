-- One place visited: the tests of the four beside it, and the length that stays.
use mathlib.Core.Path.{◌≡◌, refl, sym, ap, ◌∙◌}
use mathlib.Core.Bool.{Bool, true, false, cond, ◌&&◌, ◌||◌}
use mathlib.Core.List.{List, [], ◌∷◌, map}
use Prim.Native.Nat.{ℕ, ◌+◌, ◌≤◌, ◌<◌}
use native.Mathlib.Omega.{arith}
use lib.Dec.{eqb}
use lib.IntN.{ℤ, pos, nat_abs}
use lib.ListN.{length, get_or, take, length-set, length-map, get_or-map}
use Rattle.std.specs.List.{fold}
use Rattle.std.proofs.lemmas.List.{take_all, get_or-reverse, length-reverse}
use Rattle.std.proofs.lemmas.List.Sums.{fold_more}
use Rattle.canny_hysteresis.specs.declared.Way.{Way}
use Rattle.canny_hysteresis.specs.declared.Way.TheVariants.{Forward, Backward}
use Rattle.canny_hysteresis.specs.Ways.{order, in_order, visit_at, swept}
use Rattle.canny_hysteresis.specs.Sweeps.{any_strong, visit}

-- the places of a list of four, tested as `any_strong` tests them
or-four : (a b c d : Bool) → (((a || b) || c) || d) ≡ (a || (b || (c || (d || false))))
or-four true b c d = refl
or-four false true c d = refl
or-four false false true d = refl
or-four false false false true = refl
or-four false false false false = refl

pub any_four : (s ps : List ℕ) → length ps ≡ 4
    → (((eqb (get_or s (get_or ps 0 0) 0) 2 || eqb (get_or s (get_or ps 1 0) 0) 2) || eqb (get_or s (get_or ps 2 0) 0) 2) || eqb (get_or s (get_or ps 3 0) 0) 2)
    ≡ any_strong s ps
unfolding any_strong
any_four s (a ∷ b ∷ c ∷ d ∷ []) h = or-four (eqb (get_or s a 0) 2) (eqb (get_or s b 0) 2) (eqb (get_or s c 0) 2) (eqb (get_or s d 0) 2)
any_four s [] h = absurd (omega arith)
any_four s (a ∷ []) h = absurd (omega arith)
any_four s (a ∷ b ∷ []) h = absurd (omega arith)
any_four s (a ∷ b ∷ c ∷ []) h = absurd (omega arith)
any_four s (a ∷ b ∷ c ∷ d ∷ e ∷ ps) h = absurd (omega arith)

pub length-visit : (i : ℕ) (beside s : List ℕ) → length (visit i beside s) ≡ length s
unfolding visit
length-visit i beside s = length-set s i (cond (eqb (get_or s i 0) 1 && any_strong s beside) 2 (get_or s i 0))

-- the k-th place of a way, and one more place visited
in_order-at : (way : Way) (ps : List ℕ) (k : ℕ) → k < length ps → get_or (in_order way ps) k 0 ≡ get_or ps (order way (length ps) k) 0
in_order-at Forward ps k h = refl
in_order-at Backward ps k h = get_or-reverse ps k 0 h

length_in_order : (way : Way) (ps : List ℕ) → length (in_order way ps) ≡ length ps
length_in_order Forward ps = refl
length_in_order Backward ps = length-reverse ps

module _ (way : Way) (w : ℕ) (l : List ℤ) (s₀ : List ℕ) where
  pub swept-more : {s m : List ℕ} {k q i : ℕ} → s ≡ fold (visit_at way w) s₀ (take k (in_order way (map nat_abs l))) → k < length l
      → q ≡ order way (length l) k → i ≡ nat_abs (get_or l q (pos 0)) → m ≡ visit_at way w s i
      → m ≡ fold (visit_at way w) s₀ (take (k + 1) (in_order way (map nat_abs l)))
  swept-more {s} {m} {k} {q} {i} e h p v r =
      let ps = map nat_abs l in
      let n = length-map l nat_abs in
      let at : get_or (in_order way ps) k 0 ≡ i = in_order-at way ps k (rw n h) ∙ rw (n, ← p) (get_or-map nat_abs l q (pos 0)) ∙ sym v in
      r ∙ sym (fold_more (visit_at way w) s₀ (in_order way ps) k 0 (rw (length_in_order way ps, n) h) ∙ rw (at, ← e) refl)

  pub swept-all : {k : ℕ} → length l ≤ k → fold (visit_at way w) s₀ (take k (in_order way (map nat_abs l))) ≡ swept way w (map nat_abs l) s₀
  swept-all {k} h = ap (fold (visit_at way w) s₀) (take_all k (in_order way (map nat_abs l)) (rw (length_in_order way (map nat_abs l), length-map l nat_abs) h))
