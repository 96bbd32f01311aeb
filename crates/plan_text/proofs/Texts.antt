-- The rows of a text, line by line: a text that begins with a whole line, one without a line feed, and no text.
use mathlib.Core.Path.{◌≡◌, refl, sym, ap, ◌∙◌}
use mathlib.Core.Bool.{Bool, true, false}
use mathlib.Core.List.{List, [], ◌∷◌, ◌++◌, append_assoc, append-nil}
use Prim.Native.Nat.{ℕ, suc, ◌+◌, ◌-◌, ◌<◌, ◌≤◌, min}
use native.Mathlib.Numerals.{add-one}
use native.Mathlib.Omega.{arith}
use borrow.Author.Tests.{ne_eqb, eqb-true, lt-leb, ltb-true, ltb-false}
use denote.Param.Members.{Mut}
use denote.Ref.{Bor}
use lib.Dec.{eqb, leb, ltb}
use lib.Pointwise.{pointwise}
use lib.ListN.{length, get_or, take, drop, set, length-set, length-append, take-append-drop, drop_of_length-le}
use lib.Seq.{drop-cons, length-take-le, take-suc-set}
use Rattle.std.specs.Bool.{then_some}
use Rattle.std.specs.declared.slice.SplitInclusive.{SplitInclusive}
use Rattle.std.specs.Fn.{CalledAt, ComputesKey}
use Rattle.std.specs.List.{IsFirstMatchOrLen}
use Rattle.std.proofs.Common.{Option, Some, None, subst}
use Rattle.std.proofs.lemmas.Fn.{always_returns_same}
use Rattle.std.proofs.lemmas.List.{get_or_append_left}
use Rattle.laws.proofs.Bools.{and-true}
use Rattle.decimal.specs.Parts.{parted}
use Rattle.light_plan.specs.declared.Row.{Row}
use Rattle.light_plan.specs.Plan.{plan_of}
use Rattle.plan_text.specs.Text.{row_read, row_before, rows_of_parts, rows_read, plan_if, plan_read}
use Rattle.decimal.proofs.Parts.{is_byte, Without, parted_none, parted-at, parted-some}

-- a row and then the rows of a text
pub line_first : (line rest : List ℕ) → Without 10 line → rows_read (line ++ (10 ∷ rest)) ≡ row_before (row_read line) (rows_read rest)
unfolding rows_read rows_of_parts
line_first line rest h =
    let more = parted-some 10 rest in
    rw (parted-at 10 line rest h, more.2) refl

-- a text without a line feed has another shape, unless it is empty
pub no_feed : (t : List ℕ) → 0 < length t → Without 10 t → rows_read t ≡ None
unfolding rows_read rows_of_parts
no_feed t some h = rw (parted_none 10 t h, ne_eqb (length t) 0 (λ z. omega (arith, z))) refl

pub no_text : (t : List ℕ) → length t ≡ 0 → rows_read t ≡ Some []
unfolding rows_read rows_of_parts parted
no_text [] e = refl
no_text (b ∷ bs) e = absurd (omega arith)

-- a last byte that is a line feed, as std tests it
abbrev pub ends : List ℕ → Bool
ends x = pointwise eqb (drop (length x - 1) x) (10 ∷ [])

one : (ys : List ℕ) → pointwise eqb ys (10 ∷ []) ≡ true → ys ≡ 10 ∷ []
one [] e = cc
one (y ∷ []) e = ap (λ (b : ℕ). b ∷ []) (eqb-true y 10 (and-true (eqb y 10) true e).0)
one (y ∷ z ∷ zs) e = let no_more = (and-true (eqb y 10) false e).1 in cc

last-feed : (x line : List ℕ) → ends x ≡ true → line ≡ take (length x - 1) x → x ≡ line ++ (10 ∷ [])
last-feed x line e same = rw (same, ← one (drop (length x - 1) x) e) (sym (take-append-drop (length x - 1) x))

last-other : (x : List ℕ) → ends x ≡ false → 0 < length x → get_or x (length x - 1) 0 ≡ 10 → ⊥
last-other x e some is =
    let n = length x - 1 in
    let last : drop n x ≡ 10 ∷ [] = drop-cons x n 0 (omega arith) ∙ rw (is, drop_of_length-le x {i = suc n} (omega arith)) refl in
    let no_more = rw last at e in
    cc

-- a piece of the text xs, before the rest: it ends at the first line feed, or at the end
pub record Piece (xs x rest : List ℕ) : Type 0 where
  pub split : xs ≡ x ++ rest
  pub end : ℕ
  pub size : length x ≡ min (end + 1) (length xs)
  pub first : IsFirstMatchOrLen (is_byte 10) xs end
  pub some : 0 < length xs

-- the next piece of a text, as std's `split_inclusive` gives it: up to its first line feed, or its end
pub piece : {g : Mut (Unit {0}) (Bor ℕ × Unit {0}) Bool} (s t : SplitInclusive ℕ (Unit {0})) (x : List ℕ)
    → (s.rest.now ≡ x ++ t.rest.now)
    × ((i : ℕ) × (length x ≡ min (i + 1) (length s.rest.now))
    × ((p : ℕ → Bool) → ComputesKey g p s.pred → ComputesKey g p t.pred × IsFirstMatchOrLen p s.rest.now i)) × (0 < length s.rest.now)
    → ((y : ℕ) (b : Bool) (q : Unit {0}) → CalledAt g s.pred y b q → (q ≡ s.pred) × (b ≡ is_byte 10 y)) → Piece s.rest.now x t.rest.now
piece {g} s t x k tests =
    let key : ComputesKey g (is_byte 10) s.pred =
    always_returns_same g (λ a r. r ≡ is_byte 10 a.0.now) s.pred
    (λ a r q m. let n = tests a.0.now r q (record { shown = a.0; shows = refl; called = m }) in (n.1, n.0)) in
    record { split = k.0; end = k.1.0; size = k.1.1; first = (k.1.2 (is_byte 10) key).1; some = k.2 }

module _ (xs x rest : List ℕ) (P : Piece xs x rest) where
  -- a piece that ends with a line feed is a line
  pub whole_line : (line : List ℕ) → ends x ≡ true → line ≡ take (length x - 1) x → rows_read xs ≡ row_before (row_read line) (rows_read rest)
  whole_line line e same =
      let cut = last-feed x line e same in
      let whole : xs ≡ line ++ (10 ∷ rest) = P.split ∙ rw cut (append_assoc line (10 ∷ []) rest) in
      let clear : Without 10 line =
      λ k d l.
      subst (λ b. is_byte 10 b ≡ false) (rw whole (get_or_append_left line (10 ∷ rest) d k l))
      (P.first.0 k d (omega arith) (omega (arith, P.size, ap length cut, length-append line (10 ∷ [])))) in
      rw whole (line_first line rest clear)

  -- the last piece, without one
  pub open_line : ends x ≡ false → rows_read xs ≡ None
  open_line e = by-test (ltb P.end (length xs)) refl
    where
      by-test : (inside : Bool) → ltb P.end (length xs) ≡ inside → rows_read xs ≡ None
      by-test true t =
          let h : P.end < length xs = ltb-true P.end (length xs) t in
          let hit : get_or xs P.end 0 ≡ 10 = eqb-true (get_or xs P.end 0) 10 (P.first.1 h 0) in
          let same : get_or xs P.end 0 ≡ get_or x P.end 0 =
          ap (λ (l : List ℕ). get_or l P.end 0) P.split ∙ get_or_append_left x rest 0 P.end (omega (arith, P.size)) in
          let place : length x - 1 ≡ P.end = omega (arith, P.size) in
          let last : get_or x (length x - 1) 0 ≡ 10 = rw place (sym same ∙ hit) in
          absurd (last-other x e (omega (arith, P.size, P.some)) last)
      by-test false t = let h : length xs ≤ P.end = ltb-false P.end (length xs) t in no_feed xs P.some (λ k d l. P.first.0 k d (omega arith) (omega arith))

-- the rows that were taken, before those of the rest
abbrev with_rows : List Row → Option (List Row) → Option (List Row)
with_rows rows None = None
with_rows rows (Some more) = Some (rows ++ more)

-- what is known after n rows of a text
pub record Taken (text : List ℕ) (rows : List Row) (rest : List ℕ) (n : ℕ) : Type 0 where
  pub within : n ≤ 16
  pub size : length rows ≡ 16
  pub same : rows_read text ≡ with_rows (take n rows) (rows_read rest)

pub taken_none : (text : List ℕ) (rows : List Row) (rest : List ℕ) → rest ≡ text → length rows ≡ 16 → Taken text rows rest 0
taken_none text rows rest e size = record { within = omega arith; size = size; same = rw e (by-rows (rows_read text)) }
  where
    by-rows : (r : Option (List Row)) → r ≡ with_rows [] r
    by-rows None = refl
    by-rows (Some more) = refl

module _ (text : List ℕ) (rows : List Row) (rest : List ℕ) (n : ℕ) (T : Taken text rows rest n) where
  pub taken_more : (r : Row) (after : List ℕ) → n < 16 → rows_read rest ≡ row_before (Some r) (rows_read after) → Taken text (set rows n r) after (n + 1)
  taken_more r after h e = record {
    within = omega arith;
    size = length-set rows n r ∙ T.size;
    same = T.same ∙ rw (e, add-one n, take-suc-set rows n r (omega (arith, T.size))) (by-rows (rows_read after));
  }
    where
      by-rows : (x : Option (List Row)) → with_rows (take n rows) (row_before (Some r) x) ≡ with_rows (take n rows ++ (r ∷ [])) x
      by-rows None = refl
      by-rows (Some more) = rw (append_assoc (take n rows) (r ∷ []) more) refl

  -- a row of another shape
  pub taken_bad : rows_read rest ≡ None → None ≡ plan_read text
  taken_bad e = rw (T.same, e) refl

  -- a seventeenth row
  pub taken_full : (r : Row) (after : List ℕ) → n ≡ 16 → rows_read rest ≡ row_before (Some r) (rows_read after) → None ≡ plan_read text
  taken_full r after full e = rw (T.same, e) (by-rows (rows_read after))
    where
      by-rows : (x : Option (List Row)) → None ≡ plan_if (with_rows (take n rows) (row_before (Some r) x))
      by-rows None = refl
      by-rows (Some more) =
          let size = length-take-le n rows (omega (arith, T.size)) in
          rw (lt-leb (length (take n rows ++ (r ∷ more))) 16 (omega (arith, size, length-append (take n rows) (r ∷ more)))) refl

  -- nothing is left
  pub taken_all : length rest ≡ 0 → then_some (leb (length (take n rows)) 16) (plan_of (take n rows)) ≡ plan_read text
  taken_all e = rw (T.same, no_text rest e, append-nil (take n rows)) refl
