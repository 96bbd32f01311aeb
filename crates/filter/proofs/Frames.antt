-- A fresh filter over a list of scored frames, and laws on stamps that keep a distance. Assumes nothing.
use Rattle.std.proofs.Common.{Option}
use Prim.Native.Nat.{ℕ, ◌≤◌, zero-le, suc-le-suc}
use mathlib.Core.List.{List, [], ◌∷◌}
use lib.IntN.{ℤ, pos, ◌+ℤ◌}
use lib.ListN.{length}
use lib.Signed.{◌≤ℤ◌}
use native.Mathlib.Omega.{arith}
use Rattle.std.proofs.lemmas.Int.{ints}
use Rattle.filter.specs.declared.FilterOptions.{FilterOptions}
use Rattle.filter.specs.declared.Filter.{Filter}
use Rattle.filter.specs.Flash.{flash_filter}
use Rattle.filter.specs.Calls.{Frame}
use Rattle.laws.specs.Lists.{All}
use Rattle.filter.specs.Claim.{Choice, none, skip, pick, KeepsDistance, stamps, cuts_in}
use Rattle.timestamp.specs.declared.Timestamp.{Timestamp}

-- what the filter φ answers to scored frames, one after another
abbrev pub answers_from : FilterOptions → Filter → List Frame → List (Option Timestamp)
answers_from o φ [] = []
answers_from o φ (f ∷ fs) = (flash_filter o φ f.stamp f.above).cut ∷ answers_from o (flash_filter o φ f.stamp f.above).filter fs

abbrev pub cuts_from : FilterOptions → Filter → List Frame → List ℤ
cuts_from o φ fs = cuts_in (answers_from o φ fs)

-- ---- the distance

-- the first is d past t, or more, and each d past the one before it
abbrev pub Chain : ℕ → ℤ → List ℤ → Type 0
Chain d t [] = Unit {0}
Chain d t (c ∷ cs) = ((t +ℤ pos d) ≤ℤ c) × Chain d c cs

-- from an earlier start
pub chain-down : (d : ℕ) {t u : ℤ} (cs : List ℤ) → t ≤ℤ u → Chain d u cs → Chain d t cs
chain-down d [] h k = tt
chain-down d {t} {u} (c ∷ cs) h k = (omega (arith, ints, k.0), k.1)

pub chain-keeps : (d : ℕ) (t : ℤ) (cs : List ℤ) → Chain d t cs → KeepsDistance d (t ∷ cs)
chain-keeps d t [] k = tt
chain-keeps d t (c ∷ cs) k = (k.0, chain-keeps d c cs k.1)

keeps-tail : (d : ℕ) (c : ℤ) (cs : List ℤ) → KeepsDistance d (c ∷ cs) → KeepsDistance d cs
keeps-tail d c [] k = tt
keeps-tail d c (c' ∷ cs) k = k.1

pub chain-distance : (d : ℕ) (t : ℤ) (cs : List ℤ) → Chain d t cs → KeepsDistance d cs
chain-distance d t cs k = keeps-tail d t cs (chain-keeps d t cs k)

pub chain-from : (d : ℕ) (t : ℤ) (cs : List ℤ) → Chain d t cs → All (λ (c : ℤ). (t +ℤ pos d) ≤ℤ c) cs
chain-from d t [] k = tt
chain-from d t (c ∷ cs) k =
    (k.0, chain-from d t cs (chain-down d cs (omega (arith, ints, k.0)) k.1))

keeps-next : (d : ℕ) (c : ℤ) (cs : List ℤ) → KeepsDistance d (c ∷ cs) → Chain d c cs
keeps-next d c [] k = tt
keeps-next d c (c' ∷ cs) k = (k.0, keeps-next d c' cs k.1)

pub keeps-chain : (d : ℕ) (t : ℤ) (cs : List ℤ) → All (λ (c : ℤ). (t +ℤ pos d) ≤ℤ c) cs → KeepsDistance d cs → Chain d t cs
keeps-chain d t [] h k = tt
keeps-chain d t (c ∷ cs) h k = (h.0, keeps-next d c cs k)

-- ---- choices

pub choice-cases : {A : Type 0} (P : List A → Type 0) (y : A) (ys : List A) → ((xs : List A) → Choice xs ys → P xs) → ((xs : List A) → Choice xs ys → P (y ∷ xs))
    → (xs : List A) → Choice xs (y ∷ ys) → P xs
choice-cases P y ys f g xs (skip h) = f xs h
choice-cases P y ys f g xs (pick {xs = xs'} h) = g xs' h

pub choice-rest : {A : Type 0} {x : A} {xs ys : List A} → Choice (x ∷ xs) ys → Choice xs ys
choice-rest (skip h) = skip (choice-rest h)
choice-rest (pick h) = skip h

pub choice-length : {A : Type 0} {xs ys : List A} → Choice xs ys → length xs ≤ length ys
choice-length none = zero-le
choice-length (skip h) = omega (arith, choice-length h)
choice-length (pick h) = suc-le-suc (choice-length h)

-- what holds of the stamps of all holds of the first chosen
pub choice-first : (P : ℤ → Type 0) {y : Frame} {ys fs : List Frame} → Choice (y ∷ ys) fs → All P (stamps fs) → P y.stamp.micros
choice-first P (skip h) q = choice-first P h q.1
choice-first P (pick h) q = q.0
