-- What an operation brings, by what its code has found: the laws that the proofs of the public functions cite. The memory is m, its list's
-- stamps are the first `count` places of it.
use Rattle.std.specs.Fn.{Called, ComputesKey}
use Rattle.std.specs.List.{copy_within}
use Rattle.std.specs.List.Sorted.{IsPartitionedBy, IsPartitionPoint}
use denote.Param.Members.{Mut}
use denote.Ref.{Bor}
use Prim.Native.Nat.{ℕ, zero, suc, ◌+◌, ◌-◌, ◌≤◌, ◌<◌}
use native.Mathlib.Omega.{arith}
use mathlib.Core.Path.{◌≡◌, refl, sym, ap, ◌∙◌}
use mathlib.Core.Bool.{Bool, true, false, cond, not, ◌&&◌, ◌||◌}
use mathlib.Core.List.{List, ◌∷◌, ◌++◌, append_assoc}
use borrow.Author.Tests.{ltb-false, le-ltb, lt-ltb, not-false, ne_eqb, eq-eqb}
use lib.Dec.{eqb, ltb, eqb-suc-zero}
use lib.IntN.{ℤ, pos}
use lib.ListN.{length, get_or, set, take, drop, length-append, length-drop}
use lib.Seq.{take-take, take-add, take-suc, drop-cons, set_at, append_snoc, length-take-le, drop_at}
use lib.Signed.{le_z, lt_z}
use Rattle.laws.specs.Lists.{leave_out}
use Rattle.laws.proofs.Bools.{or-false}
use Rattle.cut_list.specs.declared.CutList.{CutList}
use Rattle.cut_list.specs.Record.{places, Held, held, cut_list, stamps_of, follows, in_order, is_bad, list_number}
use Rattle.cut_list.specs.Change.{turned, same, too_close, any_of, inserted, add_number, with_stamp, added, remove_number, without_stamp, removed}
use Rattle.cut_list.specs.Find.{span_in, clip_of}
use Rattle.cut_list.proofs.Order.{before, how_many-le, earlier_ok, fits, inserted-at, stands, left_at}
use Rattle.cut_list.proofs.Tests.{same_refl}
use Rattle.cut_list.proofs.Spans.{span-some, span_none}
use Rattle.cut_list.proofs.Walks.{before-is, clip-is}

-- a list that is not bad
pub record Sound (h : Held) : Type 0 where
  pub few : h.list.count ≤ places
  pub room : places ≤ length h.memory
  pub ordered : in_order h.list.min_duration (stamps_of h) ≡ true

pub sound : (h : Held) → is_bad h ≡ false → Sound h
unfolding is_bad
sound h e =
    let p = or-false (ltb places h.list.count || ltb (length h.memory) places) (not (in_order h.list.min_duration (stamps_of h))) e in
    let q = or-false (ltb places h.list.count) (ltb (length h.memory) places) p.0 in
    record {
      few = ltb-false places h.list.count q.0;
      room = ltb-false (length h.memory) places q.1;
      ordered = not-false (in_order h.list.min_duration (stamps_of h)) p.1;
    }

-- and one that is looked over is bad exactly if its stamps are not in order
pub looked : (h : Held) {r v : Bool} → h.list.count ≤ places → places ≤ length h.memory → r ≡ in_order h.list.min_duration (stamps_of h) → r ≡ v
    → not v ≡ is_bad h
unfolding is_bad
looked h few room e f = rw (le-ltb places h.list.count few, le-ltb (length h.memory) places room, ← e, f)

-- the place that a search of them by t finds: how many are before t, or at or before it
module _ {F : Type 0} {g : Mut F (Bor ℤ × Unit {0}) Bool} {f : F} (h : Held) {s : List ℤ} (good : is_bad h ≡ false) (t : ℤ) (i : ℕ)
    (bound : i ≤ length s) (clause : (q : ℤ → Bool) → ComputesKey g q f → IsPartitionedBy q s → IsPartitionPoint (λ y. q y ≡ true) (λ y. q y ≡ false) s i)
    (are : s ≡ stamps_of h) where
  ordered-stamps : in_order h.list.min_duration s ≡ true
  ordered-stamps = rw are (sound h good).ordered

  pub place-is : ((a : Bor ℤ × Unit {0}) (r : Bool) (f' : F) → Called g f a r f' → (r ≡ lt_z a.0.now t) × (f' ≡ f)) → i ≡ before t (stamps_of h)
  place-is calls = rw (← are) (before-is h.list.min_duration t s ordered-stamps i bound clause calls)

  pub end-is : ((a : Bor ℤ × Unit {0}) (r : Bool) (f' : F) → Called g f a r f' → (r ≡ le_z a.0.now t) × (f' ≡ f)) → i ≡ clip_of t (stamps_of h)
  end-is calls = rw (← are) (clip-is h.list.min_duration t s ordered-stamps i bound clause calls)

drop-take : (p n : ℕ) (m : List ℤ) → p ≤ n → n ≤ length m → drop p (take n m) ≡ take (n - p) (drop p m)
drop-take p n m h k =
    let e : n ≡ p + (n - p) = omega arith in
    ap (λ (i : ℕ). drop p (take i m)) e ∙ ap (λ (xs : List ℤ). drop p xs) (take-add p (n - p) m) ∙ drop_at (take p m) (take (n - p) (drop p m)) p (length-take-le p m (omega arith))

-- ---- adding and removing: p is how many stamps of the list are before t

module _ (l : CutList) (m : List ℤ) (t : ℤ) (good : is_bad (held l m) ≡ false) (p : ℕ) (as-p : p ≡ before t (take l.count m)) where
  abbrev d : ℕ
  d = l.min_duration

  abbrev xs : List ℤ
  xs = take l.count m

  is-sound : Sound (held l m)
  is-sound = sound (held l m) good

  pub room : l.count ≤ length m
  room = omega (arith, is-sound.few, is-sound.room)

  size : length xs ≡ l.count
  size = length-take-le l.count m room

  pub place-le : p ≤ l.count
  place-le = omega (arith, as-p, how_many-le (λ (x : ℤ). lt_z x t) xs, size)

  -- the test of its two neighbours, as the code makes it
  abbrev pub stands_between : Bool
  stands_between = cond (eqb p 0) true (follows d (get_or xs (p - 1) (pos 0)) t) && cond (ltb p (length xs)) (follows d t (get_or xs p (pos 0))) true

  earlier-is : (i : ℕ) → earlier_ok d t xs i ≡ cond (eqb i 0) true (follows d (get_or xs (i - 1) (pos 0)) t)
  earlier-is zero = refl
  earlier-is (suc q) = let e : suc q - 1 ≡ q = omega arith in rw (eqb-suc-zero q, e)

  close : any_of (too_close d t) xs ≡ not stands_between
  close = fits d t xs is-sound.ordered ∙ rw (← as-p, earlier-is p)

  pub add-close : stands_between ≡ false → turned 17 l m ≡ added (held l m) t
  unfolding added add_number
  add-close e = rw (good, close, e)

  pub add-full : stands_between ≡ true → l.count ≡ 512 → turned 18 l m ≡ added (held l m) t
  unfolding added add_number
  add-full e full = rw (good, close, e, eq-eqb l.count places full)

  -- the memory with t at its place, as the code writes it
  placed : any_of (too_close d t) xs ≡ false → p < length m → set (copy_within m p l.count (p + 1)) p t ≡ inserted t xs ++ drop (l.count + 1) m
  placed free h =
      let e : p + 1 ≡ suc p = omega arith in
      let f : p + 1 + (l.count - p) ≡ l.count + 1 = omega (arith, place-le) in
      let rest = take (l.count - p) (drop p m) ++ drop (l.count + 1) m in
      let written : set (take (p + 1) m ++ rest) p t ≡ take p m ++ (t ∷ rest) =
      rw (e, take-suc m p (pos 0) h, append_snoc (take p m) (get_or m p (pos 0)) rest) (set_at (take p m) (get_or m p (pos 0)) rest t p (length-take-le p m (omega arith))) in
      rw (f, append_assoc (take (p + 1) m) (take (l.count - p) (drop p m)) (drop (l.count + 1) m), written, inserted-at d t xs is-sound.ordered free, ← as-p, take-take p l.count m place-le, drop-take p l.count m place-le room)
      (sym (append_assoc (take p m) (t ∷ take (l.count - p) (drop p m)) (drop (l.count + 1) m)))

  pub add_done : stands_between ≡ true → (l.count ≡ 512 → ⊥)
      → turned 0 (cut_list d (l.count + 1)) (set (copy_within m p l.count (p + 1)) p t) ≡ added (held l m) t
  unfolding added add_number with_stamp
  add_done e more =
      let free : any_of (too_close d t) xs ≡ false = close ∙ ap not e in
      let h : p < length m = omega (arith, place-le, is-sound.few, is-sound.room, more) in
      rw (good, free, ne_eqb l.count places more, placed free h)

  -- t stands there
  module _ (there : get_or xs p (pos 0) ≡ t) (h : p < l.count) where
    same-there : same t (get_or xs p (pos 0)) ≡ true
    same-there = rw there (same_refl t)

    present : any_of (same t) xs ≡ true
    present = stands d t xs is-sound.ordered ∙ rw (← as-p, lt-ltb p (length xs) (omega (arith, size))) same-there

    -- the memory without t, as the code writes it
    left : set (copy_within m (p + 1) l.count p) (l.count - 1) (pos 0) ≡ leave_out (same t) xs ++ (pos 0 ∷ drop l.count m)
    left =
        let last = l.count - 1 in
        let n = l.count - (p + 1) in
        let e : p + n ≡ last = omega arith in
        let f : suc last ≡ l.count = omega arith in
        let kept = take n (drop (p + 1) m) in
        let a : length (take p m ++ kept) ≡ last =
        omega (arith, room, length-append (take p m) kept, length-take-le p m (omega (arith, room)), length-take-le n (drop (p + 1) m) (omega (arith, room, length-drop (p + 1) m))) in
        let written : set ((take p m ++ kept) ++ drop last m) last (pos 0) ≡ (take p m ++ kept) ++ (pos 0 ∷ drop l.count m) =
        rw (drop-cons m last (pos 0) (omega (arith, room)), f) (set_at (take p m ++ kept) (get_or m last (pos 0)) (drop l.count m) (pos 0) last a) in
        rw (
          e,
          written,
          left_at d t xs is-sound.ordered (omega (arith, size, as-p)) (rw (← as-p) same-there),
          ← as-p,
          take-take p l.count m place-le,
          drop-take (p + 1) l.count m (omega arith) room,
        )

    pub remove-done : turned 0 (cut_list d (l.count - 1)) (set (copy_within m (p + 1) l.count p) (l.count - 1) (pos 0)) ≡ removed (held l m) t
    unfolding removed remove_number without_stamp
    remove-done = rw (good, present, left)

pub remove_absent : (l : CutList) (m : List ℤ) (t : ℤ) → is_bad (held l m) ≡ false → any_of (same t) (take l.count m) ≡ false → turned 19 l m ≡ removed (held l m) t
unfolding removed remove_number
remove_absent l m t good none = rw (good, none)

-- ---- a span: p stamps are before a, and q at or before b

module _ (h : Held) (good : is_bad h ≡ false) (a b : ℤ) (p q : ℕ) (as-p : p ≡ before a (stamps_of h)) (as-q : q ≡ clip_of b (stamps_of h)) where
  pub span-done : p < q → record { number = 0; first = p; count = q - p } ≡ span_in h a b
  unfolding span_in list_number
  span-done le =
      let w = span-some h.list.min_duration a b (stamps_of h) (sound h good).ordered (omega (arith, as-p, as-q)) in
      rw (good, as-p, as-q, w.start, w.number)

  pub span-empty : q ≤ p → record { number = 0; first = 0; count = 0 } ≡ span_in h a b
  unfolding span_in list_number
  span-empty le =
      let w = span_none a b (stamps_of h) (omega (arith, as-p, as-q)) in
      rw (good, w.start, w.number)
