-- A store in which a frame's planes took the place of the first three: what the function `frame_sums` promises there of the sums and of the store
-- is what the definitions say of an accepted frame.
use mathlib.Core.Path.{◌≡◌, refl, sym, ap, ◌∙◌}
use mathlib.Core.Bool.{Bool, true, false, cond}
use mathlib.Core.List.{List, ◌++◌, append_assoc}
use Prim.Native.Nat.{ℕ, ◌+◌, ◌-◌, ◌*◌}
use native.Mathlib.Omega.{arith}
use lib.ListN.{length, take, drop, take-append-drop, length-append}
use Rattle.laws.proofs.Joined.{first_part, after-part}
use Rattle.arch_planes.specs.Difference.{sum_abs_diff}
use Rattle.canny.specs.Edges.{edge_plane}
use Rattle.stream.specs.declared.Sums.{Sums}
use Rattle.stream.specs.Stream.{no_sums}
use Rattle.scoring.specs.Planes.{Planes, joined, luma_part, edge_part, rest_part}
use Rattle.scoring.specs.Sums.{plane_sums, frame_sums, store_after}
use Rattle.scoring.specs.Replaced.{with_edge_plane, with_edge_sum}
use Rattle.scoring.proofs.Parts.{rest_of, luma_of}

-- a frame's planes, and what follows them
regroup : (p : Planes) (l : List ℕ) → joined p ++ l ≡ p.hue ++ (p.saturation ++ (p.luma ++ l))
regroup p l = simp append_assoc

module _ (w h k : ℕ) (p : Planes) (before : List ℕ) (hues : length p.hue ≡ w * h) (saturations : length p.saturation ≡ w * h) (lumas : length p.luma ≡ w * h) where
  abbrev n : ℕ
  n = w * h

  abbrev others : List ℕ
  others = drop (n + (n + n)) before

  abbrev store : List ℕ
  store = joined p ++ others

  long : length (joined p) ≡ n + (n + n)
  long = omega (arith, length-append p.hue (p.saturation ++ p.luma), length-append p.saturation p.luma, hues, saturations, lumas)

  planes-are : take (n + (n + n)) store ≡ joined p
  planes-are = first_part (joined p) others (n + (n + n)) long

  others-are : drop (n + (n + n)) store ≡ others
  others-are = after-part (joined p) others (n + (n + n)) long

  luma-is : luma_part n store ≡ p.luma
  luma-is =
      sym (luma_of n store (omega (arith, length-append (joined p) others, long)))
      ∙ ap (λ (l : List ℕ). drop (n + n) l) (planes-are ∙ sym (append_assoc p.hue p.saturation p.luma))
      ∙ after-part (p.hue ++ p.saturation) p.luma (n + n) (omega (arith, length-append p.hue p.saturation, hues, saturations))

  -- the third of the planes that took their places
  pub third_is : take (3 * n - (n + n)) (drop (n + n) store) ≡ p.luma
  third_is = let e : 3 * n - (n + n) ≡ n = omega arith in rw e luma-is

  edges-are : edge_part n store ≡ edge_part n before
  edges-are = ap (λ (l : List ℕ). take n l) others-are

  abbrev edge : List ℕ
  edge = edge_plane (luma_part n store) w h k

  abbrev sums : Sums
  sums = plane_sums n p 0 before

  pub sums-are : (edges scored : Bool) → cond scored (cond edges (with_edge_sum sums (sum_abs_diff edge (edge_part n store))) sums) no_sums ≡ frame_sums edges scored k w h p before
  unfolding frame_sums
  sums-are true scored = rw (luma-is, edges-are) refl
  sums-are false scored = refl

  pub store_is : (edges : Bool) → cond edges (with_edge_plane n edge store) store ≡ store_after edges k w h p before
  unfolding store_after
  store_is true =
      let rest : rest_part n store ≡ rest_part n before = sym (rest_of n store) ∙ ap (λ (l : List ℕ). drop n l) others-are ∙ rest_of n before in
      rw (planes-are, luma-is, rest) (regroup p (edge_plane p.luma w h k ++ rest_part n before))
  store_is false =
      let fourth : others ≡ edge_part n before ++ rest_part n before =
      sym (take-append-drop n others) ∙ ap (λ (l : List ℕ). edge_part n before ++ l) (rest_of n before) in
      ap (λ (l : List ℕ). joined p ++ l) fourth ∙ regroup p (edge_part n before ++ rest_part n before)
