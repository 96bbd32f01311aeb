-- What `spread` makes of a line l: first l₁, whose start is raised by what lies s places on, and then its end is raised by what lay s places back.
use mathlib.Core.Path.{◌≡◌, ap, ◌∙◌}
use mathlib.Core.List.{List, ◌++◌}
use Prim.Native.Nat.{ℕ, ◌+◌, ◌-◌, ◌≤◌, ◌<◌, max}
use native.Mathlib.Decide.{dec_lt}
use native.Mathlib.Omega.{arith}
use lib.ListN.{length, take, drop, get_or, get_or-append, length-append, length-drop}
use lib.Seq.{get_or-take, get_or-drop, length-take-le}
use borrow.Rule.Slice.PartMut.{put_mid}
use Rattle.std.proofs.lemmas.List.{get_or_past, get_or-append_right}
use Rattle.laws.proofs.Parts.{put-before, put_in, get_d_part, length_part}

module _ (l b m₁ l₁ m₂ : List ℕ) (s : ℕ) (inside : s ≤ length l) (same : b ≡ l)
    (size₁ : length m₁ ≡ length (take (length l - s) l))
    (one : (i : ℕ) → i < length (take (length l - s) l) → get_or m₁ i 0 ≡ max (get_or (take (length l - s) l) i 0) (get_or (take (length b - s) (drop s b)) i 0))
    (made : l₁ ≡ m₁ ++ drop (length l - s) l)
    (size₂ : length m₂ ≡ length (take (length l₁ - s) (drop s l₁)))
    (two : (i : ℕ) → i < length (take (length l₁ - s) (drop s l₁)) → get_or m₂ i 0 ≡ max (get_or (take (length l₁ - s) (drop s l₁)) i 0) (get_or (take (length l - s) b) i 0)) where
  rest : length (take (length l - s) l) ≡ length l - s
  rest = length-take-le (length l - s) l (omega arith)

  size : length l₁ ≡ length l
  size = ap length made ∙ omega (arith, length-append m₁ (drop (length l - s) l), length-drop (length l - s) l, rest, size₁)

  part : length (take (length l₁ - s) (drop s l₁)) ≡ length l - s
  part = length_part s (length l₁ - s) l₁ (omega (arith, size)) ∙ ap (λ (n : ℕ). n - s) size

  ahead : (i : ℕ) → i < length l → Dec (i < length l - s) → get_or l₁ i 0 ≡ max (get_or l i 0) (get_or l (i + s) 0)
  ahead i h (yes d) =
      let e : s + i ≡ i + s = omega arith in
      ap (λ (m : List ℕ). get_or m i 0) made
      ∙ get_or-append m₁ (drop (length l - s) l) 0 i (omega (arith, rest, size₁)) ∙ one i (omega (arith, rest))
      ∙ rw (same, get_or-take (length l - s) l i 0 d, get_d_part s (length l - s) l i 0 d, e)
  ahead i h (no d) =
      let e : length l - s + (i - (length l - s)) ≡ i = omega (arith, d) in
      ap (λ (m : List ℕ). get_or m i 0) made
      ∙ get_or-append_right m₁ (drop (length l - s) l) (length l - s) i 0 (omega (arith, rest, size₁)) (omega (arith, d))
      ∙ get_or-drop (length l - s) l (i - (length l - s)) 0
      ∙ rw (e, get_or_past l (i + s) 0 (omega (arith, d))) (omega arith)

  pub spread-first : (i : ℕ) → i < s → i < length l → get_or (put_mid s (length l₁ - s) l₁ m₂) i 0 ≡ max (get_or l i 0) (get_or l (i + s) 0)
  spread-first i a h =
      put-before s (length l₁ - s) l₁ m₂ 0 (omega (arith, size)) (omega (arith, size, size₂, part)) i a ∙ ahead i h (dec_lt i (length l - s))

  pub spread-others : (i : ℕ) → s ≤ i → i < length l → get_or (put_mid s (length l₁ - s) l₁ m₂) i 0 ≡ max (max (get_or l i 0) (get_or l (i + s) 0)) (get_or l (i - s) 0)
  spread-others i a h =
      let e : s + (i - s) ≡ i = omega arith in
      let k : i - s < length l - s = omega arith in
      ap (λ (j : ℕ). get_or (put_mid s (length l₁ - s) l₁ m₂) j 0) (omega arith)
      ∙ put_in s (length l₁ - s) l₁ m₂ 0 (omega (arith, size)) (omega (arith, size, size₂, part)) (i - s) (omega (arith, size))
      ∙ two (i - s) (omega (arith, part))
      ∙ rw (get_d_part s (length l₁ - s) l₁ (i - s) 0 (omega (arith, size)), e, ahead i h (dec_lt i (length l - s)), same, get_or-take (length l - s) l (i - s) 0 k)
