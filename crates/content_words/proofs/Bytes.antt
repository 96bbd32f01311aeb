-- What the words of a plan's arrays are read as.
use mathlib.Core.Path.{◌≡◌, ap, ◌∙◌, refl}
use mathlib.Core.Bool.{true}
use mathlib.Core.List.{List, [], ◌∷◌, ◌++◌}
use Prim.Native.Nat.{ℕ, ◌<◌}
use native.Mathlib.Nat.{mod-eq_of_lt}
use native.Mathlib.Omega.{arith}
use borrow.Author.Tests.{lt-ltb}
use lib.ListN.{length, take, drop}
use Rattle.std.specs.Int.{w64, to_le_bytes}
use Rattle.std.proofs.lemmas.List.{take-append-drop, take_all, length-drop}
use Rattle.light_plan.specs.declared.Plan.{Plan}
use Rattle.light_plan.specs.Plan.{tidied as tidied_plan}
use Rattle.light_plan.proofs.Records.{tidied_again}
use Rattle.content_words.specs.Plan.{bytes_of, is_plan, plan_of_words}

-- two words that are read as the parts of a list are read as the list
pub array_back : (v w : ℕ) (bytes : List ℕ) → to_le_bytes w64 v ≡ take 8 bytes → to_le_bytes w64 w ≡ take 8 (drop 8 bytes) → length bytes ≡ 16
    → bytes_of v w ≡ bytes
array_back v w bytes e f l =
    let whole = take_all 8 (drop 8 bytes) (omega (arith, l, length-drop 8 bytes)) in
    (λ i. e i ++ f i) ∙ ap (λ (b : List ℕ). take 8 bytes ++ b) whole ∙ take-append-drop 8 bytes

-- words of a tidied plan's count and arrays are read as that plan
pub plan_back : (p t : Plan) (a b c d e f : ℕ) → t ≡ tidied_plan p → p.count < 4294967296
    → length p.from ≡ 16 → length p.to ≡ 16 → length p.threshold ≡ 16
    → bytes_of a b ≡ t.from → bytes_of c d ≡ t.to → bytes_of e f ≡ t.threshold
    → (is_plan (t.count ∷ a ∷ b ∷ c ∷ d ∷ e ∷ f ∷ []) ≡ true) × (plan_of_words (t.count ∷ a ∷ b ∷ c ∷ d ∷ e ∷ f ∷ []) ≡ tidied_plan p)
unfolding is_plan plan_of_words
plan_back p t a b c d e f is small l m n from to threshold =
    let count : t.count ≡ p.count = ap (λ (q : Plan). q.count) is in
    let back : ◌≡◌ {A = Plan} (record { count = t.count; from = bytes_of a b; to = bytes_of c d; threshold = bytes_of e f }) t = rw (from, to, threshold) refl in (
      rw count (lt-ltb p.count 4294967296 small),
      rw (mod-eq_of_lt {n = t.count} {m = 4294967296} (rw count small)) (ap tidied_plan back ∙ ap tidied_plan is ∙ tidied_again p l m n),
    )
