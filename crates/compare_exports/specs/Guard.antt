-- What the functions for other languages answer, and what they leave in a lent buffer.
use Rattle.std.specs.Prelude.{Bool, cond, not, ◌&&◌, List, [], ◌∷◌, ℕ, ◌+◌, ◌*◌, ◌^◌, eqb, leb, length, None, Option, Some}
use Rattle.std.specs.Float.{binary64}
use Rattle.std.specs.Float.Ieee.{to_bits}
use Rattle.arch_planes.specs.Difference.{mean_abs_diff}
use Rattle.refusal.specs.Refusal.{first_that}

-- a frame's refusal; else 12 where a buffer's length is not that of the result; else 0
unfoldable pub number : ℕ → Bool → ℕ
number refusal fits = first_that ((not (eqb refusal 0), refusal) ∷ (not fits, 12) ∷ [])

-- the result where the number is 0, and else what was there before
abbrev pub after : {A : Type 0} → ℕ → List A → List A → List A
after n new old = cond (eqb n 0) new old

-- two planes of one length, of a frame's size at most
abbrev pub comparable : List ℕ → List ℕ → Bool
comparable s t = eqb (length s) (length t) && leb (length s) (2 ^ 24)

-- the difference of two planes: the whole sum, the count and the bits of the mean; three zeros where they are not comparable
abbrev pub difference_of : List ℕ → List ℕ → List ℕ
difference_of s t =
    let found = mean_abs_diff s t in
    cond (comparable s t) (found.sum ∷ found.count ∷ to_bits binary64 found.mean ∷ []) (0 ∷ 0 ∷ 0 ∷ [])

-- three numbers of 8 bits as one of 24
abbrev pub packed24 : ℕ → ℕ → ℕ → ℕ
packed24 h s v = h * 65536 + s * 256 + v

-- the microseconds, and 0 of an earlier stamp
abbrev pub micros_of : Option ℕ → ℕ
micros_of None = 0
micros_of (Some n) = n

-- 1 of an earlier stamp
abbrev pub earlier_of : Option ℕ → ℕ
earlier_of None = 1
earlier_of (Some n) = 0
