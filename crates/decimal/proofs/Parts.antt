-- The parts of a text, taken one after the other by std's `split`, and cut at one byte.
use mathlib.Core.Path.{◌≡◌, refl, sym, ap, ◌∙◌}
use mathlib.Core.Bool.{Bool, true, false, cond}
use mathlib.Core.List.{List, [], ◌∷◌, ◌++◌}
use Prim.Native.Nat.{ℕ}
use native.Mathlib.Omega.{arith}
use borrow.Author.Tests.{eq-eqb}
use denote.Param.Members.{Mut}
use denote.Ref.{Bor}
use lib.Dec.{eqb}
use lib.ListN.{length, get_or}
use Rattle.std.specs.declared.slice.Split.{Split}
use Rattle.std.proofs.Common.{Option, Some, None, subst}
use Rattle.std.specs.Bool.{MatchBool}
use Rattle.std.specs.Fn.{CalledAt, ComputesKey}
use Rattle.std.specs.List.{All, slice_split, join_with_byte, IsFirstMatchOrLen, onto_first}
use Rattle.std.specs.Option.{is_some}
use Rattle.std.specs.Slice.Iter.{split_steps}
use Rattle.std.proofs.lemmas.Fn.{always_returns_same}
use Rattle.std.proofs.lemmas.Grind.{common_steps}
use Rattle.std.proofs.lemmas.List.Splits.{slice_split_none, slice_split_at, join_with_byte-slice_split}
use Rattle.decimal.specs.Parts.{parted, with_first}

-- the byte c
abbrev pub is_byte : ℕ → ℕ → Bool
is_byte c b = eqb b c

-- no byte of the text is c
abbrev pub Without : ℕ → List ℕ → Type 0
Without c t = All (λ b. eqb b c ≡ false) t

first_same : (b : ℕ) (parts : List (List ℕ)) → with_first b parts ≡ onto_first b parts
first_same b [] = refl
first_same b (part ∷ parts) = refl

pub parted-split : (c : ℕ) (t : List ℕ) → parted c t ≡ slice_split (is_byte c) t
unfolding parted
parted-split c [] = refl
parted-split c (b ∷ bs) = rw (parted-split c bs, first_same b (slice_split (is_byte c) bs)) refl

-- a text without the byte is one part
pub parted_none : (c : ℕ) (t : List ℕ) → Without c t → parted c t ≡ t ∷ []
parted_none c t h = parted-split c t ∙ slice_split_none (is_byte c) t h

-- the first part ends at the first such byte
pub parted-at : (c : ℕ) (t rest : List ℕ) → Without c t → parted c (t ++ (c ∷ rest)) ≡ t ∷ parted c rest
parted-at c t rest h =
    parted-split c (t ++ (c ∷ rest)) ∙ slice_split_at (is_byte c) t c rest h (eq-eqb c c refl) ∙ ap (λ (ps : List (List ℕ)). t ∷ ps) (sym (parted-split c rest))

-- there is at least one part
pub parted-some : (c : ℕ) (t : List ℕ) → (p : List ℕ) × (ps : List (List ℕ)) × (parted c t ≡ p ∷ ps)
unfolding parted
parted-some c [] = ([], [], refl)
parted-some c (b ∷ bs) = by-test (eqb b c) (parted c bs)
  where
    by-test : (ends : Bool) (ps : List (List ℕ)) → (q : List ℕ) × (qs : List (List ℕ)) × (cond ends ([] ∷ ps) (with_first b ps) ≡ q ∷ qs)
    by-test true ps = ([], ps, refl)
    by-test false [] = (b ∷ [], [], refl)
    by-test false (p ∷ ps) = (b ∷ p, ps, refl)

-- the parts, joined by the byte, are the text
pub parted_joined : (c : ℕ) (t : List ℕ) → join_with_byte c (parted c t) ≡ t
parted_joined c t = ap (join_with_byte c) (parted-split c t) ∙ join_with_byte-slice_split c t

part : (c : ℕ) (xs x rest : List ℕ) (done : Bool) → MatchBool done (xs ≡ x) ((y : ℕ) × (xs ≡ x ++ (y ∷ rest))) → IsFirstMatchOrLen (is_byte c) xs (length x)
    → slice_split (is_byte c) xs ≡ x ∷ cond done [] (slice_split (is_byte c) rest)
part c xs x rest true e h =
    ap (slice_split (is_byte c)) e
    ∙ slice_split_none (is_byte c) x (λ k d l. subst (λ ys. is_byte c (get_or ys k d) ≡ false) e (h.0 k d (omega arith) l))
part c xs x rest false e h =
    let front : All (λ z. is_byte c z ≡ false) x = λ k d l. let a = h.0 k d (omega arith) l in let b = e.1 in grind (arith, common_steps) in
    let hit : is_byte c e.0 ≡ true = let b = e.1 in let a = h.1 (grind (arith, common_steps)) e.0 in grind (arith, common_steps) in
    ap (slice_split (is_byte c)) e.1 ∙ slice_split_at (is_byte c) x e.0 rest front hit

-- the parts that are left to take
abbrev pub left : ℕ → Split ℕ (Unit {0}) → List (List ℕ)
left c s = cond s.done [] (slice_split (is_byte c) s.rest.now)

pub start : (c : ℕ) (t : List ℕ) (s : Split ℕ (Unit {0})) → s.rest.now ≡ t → s.done ≡ false → parted c t ≡ left c s
start c t s rest done = parted-split c t ∙ rw (done, rest) refl

-- no part is left
pub next_none : (c : ℕ) (s : Split ℕ (Unit {0})) → s.done ≡ true → left c s ≡ []
next_none c s done = rw done refl

module _ (c : ℕ) (g : Mut (Unit {0}) (Bor ℕ × Unit {0}) Bool) (s t : Split ℕ (Unit {0})) where
  -- the next part is taken
  pub next-some : (x : Bor (List ℕ)) → split_steps g s (Some x) t
      → ((y : ℕ) (b : Bool) (q : Unit {0}) → CalledAt g s.pred y b q → (q ≡ s.pred) × (b ≡ is_byte c y))
      → left c s ≡ x.now ∷ left c t
  next-some x k tests =
      let key : ComputesKey g (is_byte c) s.pred =
      always_returns_same g (λ a r. r ≡ is_byte c a.0.now) s.pred
      (λ a r q m. let n = tests a.0.now r q (record { shown = a.0; shows = refl; called = m }) in (n.1, n.0)) in
      rw k.0 (part c s.rest.now x.now t.rest.now t.done k.1 (k.2 (is_byte c) key).1)

  pub none_left : (r : Option (Bor (List ℕ))) → split_steps g s r t → is_some r ≡ false → left c s ≡ []
  none_left None k e = next_none c s k.0
  none_left (Some x) k e = cc

  pub some-left : (r : Option (Bor (List ℕ))) → split_steps g s r t → is_some r ≡ true
      → ((y : ℕ) (b : Bool) (q : Unit {0}) → CalledAt g s.pred y b q → (q ≡ s.pred) × (b ≡ is_byte c y))
      → (v : List ℕ) × (left c s ≡ v ∷ left c t)
  some-left None k e tests = cc
  some-left (Some x) k e tests = (x.now, next-some x k tests)
