-- The pieces of a chunk, each of which ends with a line feed or at the end of the chunk, as std's `split_inclusive` gives them.
use mathlib.Core.Path.{◌≡◌, refl, sym, ap, ◌∙◌}
use mathlib.Core.Bool.{Bool, true≢false}
use mathlib.Core.List.{List, ◌++◌}
use Prim.Native.Nat.{ℕ, ◌+◌, ◌-◌, ◌≤◌, ◌<◌, min}
use native.Mathlib.Omega.{arith}
use denote.Param.Members.{Mut}
use denote.Ref.{Bor}
use borrow.Author.Tests.{eq-eqb}
use lib.Dec.{eqb}
use lib.ListN.{length, get_or, take, drop}
use lib.Seq.{take_at, drop_at, drop-drop}
use Rattle.std.specs.declared.slice.SplitInclusive.{SplitInclusive}
use Rattle.std.specs.Fn.{CalledAt, ComputesKey}
use Rattle.std.specs.List.{IsFirstMatchOrLen}
use Rattle.std.proofs.lemmas.Fn.{always_returns_same}
use Rattle.std.proofs.lemmas.List.{get_or_append_left}
use Rattle.session.specs.Feeding.{before_feed}
use Rattle.session.proofs.Holding.{before-from}

-- a line feed
abbrev pub feed : ℕ → Bool
feed b = eqb b 10

alone : (xs x rest : List ℕ) (i : ℕ) → xs ≡ x ++ rest → length x ≡ min (i + 1) (length xs) → IsFirstMatchOrLen feed xs i → length x ≤ before_feed x + 1
alone xs x rest i split size h =
    let none : (k : ℕ) → k < length x - 1 → get_or x k 0 ≡ 10 → ⊥ =
    λ k less is. let not_feed = h.0 k 0 (omega arith) (omega arith) in let same : get_or xs k 0 ≡ get_or x k 0 = rw split (get_or_append_left x rest 0 k (omega arith)) in true≢false (sym (eq-eqb (get_or x k 0) 10 is) ∙ ap feed (sym same) ∙ not_feed) in
    omega (arith, before-from x (length x - 1) (omega arith) none)

-- a piece: the bytes before it, which are taken, and those after it
pub piece : {g : Mut (Unit {0}) (Bor ℕ × Unit {0}) Bool} (s t : SplitInclusive ℕ (Unit {0})) (x : List ℕ)
    → (s.rest.now ≡ x ++ t.rest.now) × ((i : ℕ) × (length x ≡ min (i + 1) (length s.rest.now)) × ((p : ℕ → Bool) → ComputesKey g p s.pred → ComputesKey g p t.pred × IsFirstMatchOrLen p s.rest.now i)) × (0 < length s.rest.now)
    → ((y : ℕ) (b : Bool) (q : Unit {0}) → CalledAt g s.pred y b q → (q ≡ s.pred) × (b ≡ feed y)) → length x ≤ before_feed x + 1
piece {g} s t x k tests =
    let key : ComputesKey g feed s.pred =
    always_returns_same g (λ a r. r ≡ feed a.0.now) s.pred (λ a r q m. let n = tests a.0.now r q (record { shown = a.0; shows = refl; called = m }) in (n.1, n.0)) in
    alone s.rest.now x t.rest.now k.1.0 k.0 k.1.1 (k.1.2 feed key).1

pub piece-here : (chunk x rest : List ℕ) (a : ℕ) → drop a chunk ≡ x ++ rest → x ≡ take (length x) (drop a chunk)
piece-here chunk x rest a e = sym (ap (take (length x)) e ∙ take_at x rest (length x) refl)

pub piece-next : (chunk x rest : List ℕ) (a : ℕ) → drop a chunk ≡ x ++ rest → rest ≡ drop (a + length x) chunk
piece-next chunk x rest a e = sym (drop_at x rest (length x) refl) ∙ ap (drop (length x)) (sym e) ∙ drop-drop (length x) a chunk
