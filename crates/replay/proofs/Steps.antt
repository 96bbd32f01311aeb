-- The library's folds and bytes are those of the definitions.
use Rattle.std.proofs.Common.{◌≡◌, refl, ◌+◌, ◌≤◌, length, take, add-one, List, [], ◌∷◌, ℕ, ℤ, pos, negsuc, arith, w32, w64, fold}
use Rattle.std.proofs.lemmas.List.{take_all}
use Rattle.std.proofs.Math.Nat.{div-div-eq-div-mul}
use Rattle.std.specs.Int.{cast_unsigned, to_le_bytes}
use Rattle.replay.specs.declared.Digest.{Digest}
use Rattle.replay.specs.Generator.{next_of, after}
use Rattle.replay.specs.Digest.{step_of, fed, fed_signed, bits_of, least_first}

fold_fed : (d : Digest) (s : List ℕ) → fold step_of d s ≡ fed d s
unfolding fed
fold_fed d [] = refl
fold_fed d (x ∷ s) = fold_fed (step_of d x) s

-- all bytes are fed
pub fed_all : (d e : Digest) (s : List ℕ) (i : ℕ) → e ≡ fold step_of d (take i s) → length s ≤ i → e ≡ fed d s
fed_all d e s i h b = rw (h, take_all i s b) (fold_fed d s)

bits-cast : (z : ℤ) → bits_of z ≡ cast_unsigned w32 z
bits-cast (pos n) = refl
bits-cast (negsuc n) = omega arith

-- one signed number more
abbrev pub word_of : Digest → ℤ → Digest
word_of d z = fed d (least_first 4 (cast_unsigned w32 z))

fold_signed : (d : Digest) (s : List ℤ) → fold word_of d s ≡ fed_signed d s
unfolding fed_signed
fold_signed d [] = refl
fold_signed d (z ∷ s) = rw (bits-cast z) (fold_signed (word_of d z) s)

-- all numbers are fed
pub signed_all : (d e : Digest) (s : List ℤ) (i : ℕ) → e ≡ fold word_of d (take i s) → length s ≤ i → e ≡ fed_signed d s
signed_all d e s i h b = rw (h, take_all i s b) (fold_signed d s)

pub four_bytes : (n : ℕ) → least_first 4 n ≡ to_le_bytes w32 n
unfolding least_first
four_bytes n = simp div-div-eq-div-mul

pub eight_bytes : (n : ℕ) → least_first 8 n ≡ to_le_bytes w64 n
unfolding least_first
eight_bytes n = simp div-div-eq-div-mul

-- one more number of the generator
pub after_more : (n x : ℕ) → after (n + 1) x ≡ next_of (after n x)
unfolding after
after_more n x = rw (add-one n) refl
