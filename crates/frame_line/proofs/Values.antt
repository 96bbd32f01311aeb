-- The values of a line, taken one by one.
use mathlib.Core.Path.{◌≡◌, refl, sym, ap, ◌∙◌}
use mathlib.Core.Bool.{Bool, true, false, ◌&&◌, and-false}
use mathlib.Core.List.{List, [], ◌∷◌, ◌++◌, map, append_assoc, append-nil}
use Prim.Native.Nat.{ℕ, ◌+◌, ◌≤◌, ◌<◌}
use native.Mathlib.Numerals.{add-one}
use native.Mathlib.Omega.{arith}
use borrow.Author.Tests.{eq-eqb, ne_eqb}
use lib.Dec.{eqb}
use lib.ListN.{length, take, set}
use lib.Seq.{take-suc-set}
use Rattle.std.proofs.lemmas.List.{take-append-le}
use Rattle.std.proofs.Common.{Some, None}
use Rattle.decimal.specs.Reading.{number, number_read}
use Rattle.decimal.proofs.Numbers.{number-some, number_none}
use Rattle.frame_line.specs.Line.{all_values}

-- vs are exactly n values
abbrev pub are_values : ℕ → List (List ℕ) → Bool
are_values n vs = eqb (length vs) n && all_values vs

-- what is known after i values of vs: luma begins with them, and rest are left
pub record Taken (vs : List (List ℕ)) (luma : List ℕ) (rest : List (List ℕ)) (i : ℕ) : Type 0 where
  pub count : length vs ≡ i + length rest
  pub values : all_values vs ≡ all_values rest
  pub same : map number vs ≡ take i luma ++ map number rest

pub taken_none : (vs : List (List ℕ)) (luma : List ℕ) → Taken vs luma vs 0
taken_none vs luma = record { count = omega arith; values = refl; same = refl }

module _ (vs : List (List ℕ)) (luma : List ℕ) (i : ℕ) where
  module _ (v : List ℕ) (rest left : List (List ℕ)) (T : Taken vs luma left i) (next : left ≡ v ∷ rest) where
    pub taken_more : (n : ℕ) → number_read 255 v ≡ Some n → i < length luma → Taken vs (set luma i n) rest (i + 1)
    unfolding all_values
    taken_more n e h =
        let s = number-some 255 n v e in
        record {
          count = T.count ∙ rw next (omega arith);
          values = T.values ∙ rw (next, s.0);
          same = T.same ∙ rw (next, add-one i, take-suc-set luma i n h, append_assoc (take i luma) (n ∷ []) (map number rest), s.1);
        }

    -- no value comes next, or one after the last
    pub taken_bad : (n : ℕ) → number_read 255 v ≡ None → are_values n vs ≡ false
    unfolding all_values
    taken_bad n e = rw (T.values, next, number_none 255 v e) (and-false (eqb (length vs) n))

    pub taken-long : (n : ℕ) → n ≤ i → are_values n vs ≡ false
    taken-long n h = let more = T.count ∙ ap (λ (l : List (List ℕ)). i + length l) next in rw (ne_eqb (length vs) n (λ q. omega (arith, q, more)))

  module _ (left : List (List ℕ)) (T : Taken vs luma left i) (none : left ≡ []) where
    pub taken-short : (n : ℕ) → i < n → are_values n vs ≡ false
    taken-short n h = let end = T.count ∙ ap (λ (l : List (List ℕ)). i + length l) none in rw (ne_eqb (length vs) n (λ q. omega (arith, q, end)))

    -- all are taken
    pub taken-all : (n : ℕ) → n ≡ i → are_values n vs ≡ true
    unfolding all_values
    taken-all n last =
        let end = T.count ∙ ap (λ (l : List (List ℕ)). i + length l) none in
        rw (eq-eqb (length vs) n (omega (arith, end)), T.values, none)

    pub taken-luma : (n : ℕ) (after : List ℕ) → n ≡ i → i ≤ length luma → take n (luma ++ after) ≡ map number vs
    taken-luma n after last h = rw last (take-append-le i luma after h ∙ sym (T.same ∙ rw none (append-nil (take i luma))))
