-- Sixteen bytes of which those past the first few are 0.
use Rattle.std.proofs.Common.{◌≡◌, refl, ap, sym, ◌∙◌, arith, List, [], ◌∷◌, ◌++◌, ℕ, zero, suc, ◌+◌, ◌-◌, ◌≤◌, ◌<◌, min, length, get_or, set, take, map, replicate}
use Rattle.std.proofs.lemmas.List.{take_more, take_at, take_all, set_at, append-nil, append_assoc, length-take-le, length-map, get_or-map}
use native.Mathlib.Decide.{dec_lt}
use Rattle.light_plan.specs.declared.Row.{Row}
use Rattle.light_plan.specs.Plan.{kept}

-- one more is kept when it is written
kept_more : (bytes : List ℕ) (i b : ℕ) → i < 16 → i < length bytes → b ≡ get_or bytes i 0
    → set (kept i bytes) i b ≡ kept (i + 1) bytes
kept_more bytes i b h k e =
    let rest : 16 - i ≡ suc (16 - (i + 1)) = omega arith in
    rw (rest, take_more bytes i 0 k, e)
    (set_at (take i bytes) 0 (replicate (16 - (i + 1)) 0) (get_or bytes i 0) i (length-take-le i bytes (omega arith))
    ∙ sym (append_assoc (take i bytes) (get_or bytes i 0 ∷ []) (replicate (16 - (i + 1)) 0)))

-- the same of one part of each row
pub part_more : (part : Row → ℕ) (rows : List Row) (d : Row) (i : ℕ) → i < 16 → i < length rows
    → set (kept i (map part rows)) i (part (get_or rows i d)) ≡ kept (i + 1) (map part rows)
part_more part rows d i h k =
    kept_more (map part rows) i (part (get_or rows i d)) h (omega (arith, length-map rows part)) (sym (get_or-map part rows i d 0 k))

zeros_at : (n i : ℕ) → ◌≡◌ {A = ℕ} (get_or (replicate n 0) i 0) 0
zeros_at zero i = refl
zeros_at (suc n) zero = refl
zeros_at (suc n) (suc i) = zeros_at n i

padded_at : (count n : ℕ) (bytes : List ℕ) (i : ℕ) → i < count → get_or (take count bytes ++ replicate n 0) i 0 ≡ get_or bytes i 0
padded_at zero n bytes i h = absurd (omega arith)
padded_at (suc count) n [] i h = zeros_at n i
padded_at (suc count) n (b ∷ bytes) zero h = refl
padded_at (suc count) n (b ∷ bytes) (suc i) h = padded_at count n bytes i (omega arith)

-- a place below the count keeps its byte
pub kept_at : (count : ℕ) (bytes : List ℕ) (i : ℕ) → i < count → get_or (kept count bytes) i 0 ≡ get_or bytes i 0
kept_at count bytes i h = padded_at count (16 - count) bytes i h

-- what is kept once is kept again
pub kept_again : (count : ℕ) (bytes : List ℕ) → min count 16 ≤ length bytes → kept count (kept count bytes) ≡ kept count bytes
kept_again count bytes h = go (dec_lt (length bytes) count)
  where
    go : Dec (length bytes < count) → kept count (kept count bytes) ≡ kept count bytes
    go (yes b) =
        let over : 16 - count ≡ 0 = omega (arith, b) in
        rw (over, take_all count bytes (omega (arith, b)), append-nil bytes, take_all count bytes (omega (arith, b)), append-nil bytes) refl
    go (no b) =
        ap (λ (l : List ℕ). l ++ replicate (16 - count) 0)
        (take_at (take count bytes) (replicate (16 - count) 0) count (length-take-le count bytes (omega (arith, b))))
