-- `arch_planes::block_sum` meets its contract: the pairs of a and b, place by place, and the sum of their differences.
use Rattle.std.proofs.Common.{◌≡◌, ℕ, zero, suc, ◌+◌, List, [], ◌∷◌, length, get_or, refl, ◌∙◌, arith, rules}
use Rattle.std.specs.List.{sum_by, zip}
use Rattle.std.proofs.lemmas.Iterator.{YieldsList-from_slice, YieldsList-from_zip, YieldsList-from_map}
use Rattle.std.proofs.lemmas.Iterator.Consumers.{YieldsList-at, sum_by_from_yields_List}
use Rattle.std.proofs.lemmas.List.Sums.{sum_by-cons}
use Rattle.laws.specs.Lists.{sum}
use Rattle.arch_planes.specs.Difference.{dist, sum_abs_diff}
use Rattle.arch_planes.proofs.Totals.{difference_bound}
use Rattle.arch_planes.proofs.block_sum.Goals as goal

sum_front : (n : ℕ) (f : ℕ → ℕ) → sum (suc n) f ≡ f 0 + sum n (λ i. f (suc i))
unfolding sum
sum_front zero f = omega arith
sum_front (suc n) f = omega (arith, sum_front n f)

-- by pairs and by places
sum-zip : (s t : List ℕ) → length s ≡ length t → sum_by (λ (p : ℕ × ℕ). dist p.0 p.1) (zip s t) ≡ sum (length s) (λ i. dist (get_or s i 0) (get_or t i 0))
unfolding sum
sum-zip [] [] e = refl
sum-zip [] (y ∷ t) e = absurd (omega arith)
sum-zip (x ∷ s) [] e = absurd (omega arith)
sum-zip (x ∷ s) (y ∷ t) e =
    omega (arith, sum_by-cons (λ (p : ℕ × ℕ). dist p.0 p.1) (x, y) (zip s t), sum_front (length s) (λ i. dist (get_or (x ∷ s) i 0) (get_or (y ∷ t) i 0)), sum-zip s t (omega arith))

pub returns : goal.returns
unfolding sum_abs_diff
returns c =
    let a = c.args.a.now in
    let b = c.args.b.now in
    let e : c.sum.result ≡ sum_abs_diff a b =
    sum_by_from_yields_List (λ (p : ℕ × ℕ). dist p.0 p.1) (zip a b) c.map.result c.sum.result c.sum.ensures.ran
    (YieldsList-from_map _ (λ (p : ℕ × ℕ). dist p.0 p.1) (YieldsList-at c.map.ensures.source (YieldsList-from_zip (YieldsList-from_slice a cc) (YieldsList-from_slice b c.zip.ensures.second.0))) c.map.ensures.closure (λ x r q k. search rules))
    ∙ sum-zip a b c.requires.a_len in
    record { value = e; bound = omega (arith, e, difference_bound a b (λ i. omega (arith, c.type_inv.a i)) (λ i. omega (arith, c.type_inv.b i))) }
