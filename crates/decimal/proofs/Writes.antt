-- A text placed in memory: what is placed after it, and the length.
use mathlib.Core.Path.{◌≡◌, refl, sym, ap, ◌∙◌}
use mathlib.Core.List.{List, [], ◌∷◌, ◌++◌, append_assoc}
use Prim.Native.Nat.{ℕ, ◌+◌, ◌-◌, ◌≤◌, ◌<◌}
use native.Mathlib.Numerals.{add-one}
use native.Mathlib.Omega.{arith}
use lib.ListN.{length, take, drop, set, take-append-drop, length-append}
use lib.Seq.{length-take-le, drop-drop, set_split}
use borrow.Rule.Slice.PartMut.{put_mid}
use Rattle.laws.proofs.Parts.{put-length}
use Rattle.laws.proofs.Joined.{next-put}
use Rattle.decimal.specs.declared.Writer.{Writer}
use Rattle.decimal.specs.Placed.{placed, Wrote}

pub length-placed : (out : List ℕ) (at : ℕ) (s : List ℕ) → at + length s ≤ length out → length (placed out at s) ≡ length out
unfolding placed
length-placed out at s fits = put-length at (length s) out s 0 fits refl

-- a text, and another after it, are the two as one text
pub placed-after : (out : List ℕ) (at : ℕ) (s t : List ℕ) → at ≤ length out → placed (placed out at s) (at + length s) t ≡ placed out at (s ++ t)
unfolding placed
placed-after out at s t fits =
    let x = take at out in
    let rest = drop at out in
    let size : length (x ++ s) ≡ at + length s = length-append x s ∙ ap (λ (n : ℕ). n + length s) (length-take-le at out fits) in
    rw (← append_assoc x s (drop (length s) rest))
    (next-put (x ++ s) (drop (length s) rest) (at + length s) (length t) t size
    ∙ rw (drop-drop (length t) (length s) rest, ← length-append s t) (simp append_assoc))

-- the place of the second may be given as a sum
pub placed-next : (out : List ℕ) (at a : ℕ) (s t : List ℕ) → at ≤ length out → a ≡ at + length s → placed (placed out at s) a t ≡ placed out at (s ++ t)
placed-next out at a s t fits e = rw e (placed-after out at s t fits)

-- a part of the memory that is written whole
pub placed-part : (out : List ℕ) (at : ℕ) (s new : List ℕ) → new ≡ s → put_mid at (at + length s - at) out new ≡ placed out at s
unfolding placed
placed-part out at s new e = let size : at + length s - at ≡ length s = omega arith in rw (size, e)

pub placed-byte : (out : List ℕ) (at b : ℕ) → at < length out → set out at b ≡ placed out at (b ∷ [])
unfolding placed
placed-byte out at b h = set_split out at b h ∙ rw (drop-drop 1 at out, add-one at)

pub placed-none : (out : List ℕ) (at : ℕ) → placed out at [] ≡ out
unfolding placed
placed-none out at = take-append-drop at out

-- nothing written
pub wrote_none : (w : Writer) → Wrote w [] w
wrote_none w = record { memory = sym (placed-none w.out.now w.at); place = omega arith; size = refl; same = refl }

-- one text written, and then another
pub wrote_next : {w w₁ w₂ : Writer} {s t : List ℕ} → w.at ≤ length w.out.now → Wrote w s w₁ → Wrote w₁ t w₂ → Wrote w (s ++ t) w₂
wrote_next {w} {w₁} {w₂} {s} {t} fits first next = record {
  memory = next.memory ∙ ap (λ (l : List ℕ). placed l w₁.at t) first.memory ∙ placed-next w.out.now w.at w₁.at s t fits first.place;
  place = omega (arith, next.place, first.place, length-append s t);
  size = next.size ∙ first.size;
  same = next.same ∙ first.same;
}

-- the place stays inside the memory
pub wrote-inside : {w w' : Writer} {text : List ℕ} → w.at ≤ length w.out.now → Wrote w text w' → w'.at ≤ length w'.out.now
unfolding placed
wrote-inside {w} {w'} {text} h wrote =
    let x = take w.at w.out.now in
    let rest = drop (length text) (drop w.at w.out.now) in
    omega (arith, wrote.place, wrote.size, ap length wrote.memory, length-append x (text ++ rest), length-append text rest, length-take-le w.at w.out.now h)
