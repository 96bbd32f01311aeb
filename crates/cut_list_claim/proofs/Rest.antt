-- The places from 512 on are not read and not written: an operation on `first ++ xs`, where `first` has 512 places, is the operation on `first`, with
-- xs behind it. Assumes nothing.
use Rattle.std.proofs.Common.{None}
use Prim.Native.Nat.{ℕ, ◌+◌, ◌≤◌, ◌<◌}
use native.Mathlib.Omega.{arith}
use mathlib.Core.Path.{◌≡◌, refl, sym, ap, ◌∙◌}
use mathlib.Core.Bool.{Bool, true, false, cond, not, ◌||◌, true≢false, false≢true}
use mathlib.Core.List.{List, [], ◌∷◌, ◌++◌, append_assoc}
use lib.Dec.{eqb, ltb}
use lib.IntN.{ℤ, pos}
use lib.ListN.{length, take, drop, replicate, length-append}
use lib.Seq.{take-append-le, drop-append-le, take_at, drop_at}
use borrow.Author.Tests.{eqb-true, ltb-false, le-ltb}
use Rattle.laws.specs.Lists.{leave_out}
use Rattle.refusal.specs.Refusal.{first_that}
use Rattle.cut_list.specs.declared.CutList.{CutList}
use Rattle.cut_list.specs.Record.{places, Held, held, stamps_of, in_order, is_bad, list_number}
use Rattle.cut_list.specs.Change.{Turn, or_refused, same, any_of, too_close, add_number, inserted, with_stamp, added, remove_number, without_stamp, removed, without_stamps, emptied}
use Rattle.cut_list.specs.Find.{NearestStamp, StampsWithin, ClipOfStamp, nearest_of, nearest_in, span_start, how_many, within, span_in, clip_of, clip_in}
use Rattle.cut_list.proofs.Brought.{sound}
use Rattle.cut_list_claim.specs.Run.{Operation, add, remove, empty, nearest, span, clip, operated}
use Rattle.cut_list_claim.specs.Claim.{RestUntouched}
use Rattle.cut_list_claim.proofs.Steps.{leaving, add-rows, add-leaves, remove-rows, remove-leaves, empty-rows, empty-leaves}

-- the same choice, where the two tests agree and, failed, so do the two values
pick-alike : {A : Type 0} (x y z : A) (a b : Bool) → a ≡ b → (b ≡ false → y ≡ z) → cond a x y ≡ cond b x z
pick-alike x y z true true e f = refl
pick-alike x y z true false e f = absurd (true≢false e)
pick-alike x y z false true e f = absurd (false≢true e)
pick-alike x y z false false e f = f refl

-- a list, and what an operation leaves, with more places behind its memory
abbrev behind : List ℤ → Held → Held
behind xs h = held h.list (h.memory ++ xs)

abbrev over : List ℤ → Turn → Turn
over xs y = leaving y.number (behind xs y.after)

-- an operation on a list with more places behind its memory has the same number, and if accepted leaves the same with those places behind it
or_refused-over : (h after after' : Held) (xs : List ℤ) (n m : ℕ) → n ≡ m → (m ≡ 0 → after' ≡ behind xs after)
    → or_refused n (behind xs h) after' ≡ over xs (or_refused m h after)
or_refused-over h after after' xs n m e same_after = rw e (by (eqb m 0) refl)
  where
    by : (b : Bool) → eqb m 0 ≡ b → leaving m (cond b after' (behind xs h)) ≡ over xs (leaving m (cond b after h))
    by true q = ap (λ (k : Held). leaving m k) (same_after (eqb-true m 0 q))
    by false q = refl

module _ (l : CutList) (first : List ℤ) (len : length first ≡ places) (xs : List ℤ) where
  abbrev alone : Held
  alone = held l first

  abbrev with-more : Held
  with-more = held l (first ++ xs)

  stamps-alike : l.count ≤ places → stamps_of with-more ≡ stamps_of alone
  stamps-alike few = take-append-le l.count first xs (omega arith)

  bad-alike : is_bad with-more ≡ is_bad alone
  unfolding is_bad
  bad-alike = by (ltb places l.count) refl
    where
      by : (b : Bool) → ltb places l.count ≡ b
          → (b || ltb (length (first ++ xs)) places || not (in_order l.min_duration (take l.count (first ++ xs))))
          ≡ (b || ltb (length first) places || not (in_order l.min_duration (take l.count first)))
      by true q = refl
      by false q =
          let long = le-ltb (length (first ++ xs)) places (omega (arith, length-append first xs)) in
          rw (long, le-ltb (length first) places (omega arith), stamps-alike (ltb-false places l.count q))

  few-of : is_bad alone ≡ false → l.count ≤ places
  few-of e = (sound alone e).few

  -- what is read of the stamps of a list that is not bad
  read_alike : {A : Type 0} (refused : A) (f : List ℤ → A)
      → cond (is_bad with-more) refused (f (stamps_of with-more)) ≡ cond (is_bad alone) refused (f (stamps_of alone))
  read_alike refused f =
      pick-alike refused (f (stamps_of with-more)) (f (stamps_of alone)) (is_bad with-more) (is_bad alone) bad-alike (λ e. ap f (stamps-alike (few-of e)))

  number-alike : list_number with-more ≡ list_number alone
  unfolding list_number
  number-alike = ap (λ (b : Bool). cond b 15 0) bad-alike

  nearest-alike : (t : ℤ) → nearest_in with-more t ≡ nearest_in alone t
  unfolding nearest_in
  nearest-alike t = λ i. record { number = number-alike i; nearest = read_alike None (nearest_of t) i }

  span-alike : (a b : ℤ) → span_in with-more a b ≡ span_in alone a b
  unfolding span_in
  span-alike a b = λ i. record { number = number-alike i; first = read_alike 0 (span_start a b) i; count = read_alike 0 (how_many (within a b)) i }

  clip-alike : (t : ℤ) → clip_in with-more t ≡ clip_in alone t
  unfolding clip_in
  clip-alike t = λ i. record { number = number-alike i; clip = read_alike 0 (clip_of t) i }

  -- the written places, then the others
  written : (stamps wiped : List ℤ) (n : ℕ) → n ≤ places → stamps ++ (wiped ++ drop n (first ++ xs)) ≡ (stamps ++ (wiped ++ drop n first)) ++ xs
  written stamps wiped n small =
      rw (drop-append-le n first xs (omega arith), append_assoc stamps (wiped ++ drop n first) xs, append_assoc wiped (drop n first) xs)

  add-over : (t : ℤ) → added with-more t ≡ over xs (added alone t)
  unfolding added add_number with_stamp
  add-over t =
      or_refused-over alone (with_stamp alone t) (with_stamp with-more t) xs (add_number with-more t) (add_number alone t)
      (read_alike 15 (λ (stamps : List ℤ). first_that ((any_of (too_close l.min_duration t) stamps, 17) ∷ (eqb l.count places, 18) ∷ [])))
      (λ e. let room = accepted e in rw (stamps-alike (omega arith), written (inserted t (stamps_of alone)) [] (l.count + 1) (omega arith)))
    where
      accepted : add_number alone t ≡ 0 → l.count < places
      accepted =
          add-rows alone t (λ y. y.number ≡ 0 → l.count < places) (λ _. omega arith) (λ _ _. omega arith) (λ _ _ _. omega arith)
          (λ fine _ room _. omega (arith, few-of fine))

  remove-over : (t : ℤ) → removed with-more t ≡ over xs (removed alone t)
  unfolding removed remove_number without_stamp
  remove-over t =
      or_refused-over alone (without_stamp alone t) (without_stamp with-more t) xs (remove_number with-more t) (remove_number alone t)
      (read_alike 15 (λ (stamps : List ℤ). first_that ((not (any_of (same t) stamps), 19) ∷ [])))
      (λ e. let few = accepted e in rw (stamps-alike few, written (leave_out (same t) (stamps_of alone)) (pos 0 ∷ []) l.count few))
    where
      accepted : remove_number alone t ≡ 0 → l.count ≤ places
      accepted = remove-rows alone t (λ y. y.number ≡ 0 → l.count ≤ places) (λ _. omega arith) (λ _ _. omega arith) (λ fine _ _. few-of fine)

  empty-over : emptied with-more ≡ over xs (emptied alone)
  unfolding emptied without_stamps
  empty-over =
      or_refused-over alone (without_stamps alone) (without_stamps with-more) xs (list_number with-more) (list_number alone) number-alike
      (λ e. rw (written [] (replicate l.count (pos 0)) l.count (accepted e)))
    where
      accepted : list_number alone ≡ 0 → l.count ≤ places
      accepted = empty-rows alone (λ y. y.number ≡ 0 → l.count ≤ places) (λ _. omega arith) (λ fine _. few-of fine)

  -- a reader leaves the list as it was
  reader-over : (n m : ℕ) → n ≡ m → leaving n with-more ≡ over xs (leaving m alone)
  reader-over n m e = ap (λ (k : ℕ). leaving k with-more) e

  operated-over : (o : Operation) → operated with-more o ≡ over xs (operated alone o)
  operated-over (add t) = add-over t
  operated-over (remove t) = remove-over t
  operated-over empty = empty-over
  operated-over (nearest t) =
      reader-over (nearest_in with-more t).number (nearest_in alone t).number (ap (λ (r : NearestStamp). r.number) (nearest-alike t))
  operated-over (span a b) =
      reader-over (span_in with-more a b).number (span_in alone a b).number (ap (λ (r : StampsWithin). r.number) (span-alike a b))
  operated-over (clip t) = reader-over (clip_in with-more t).number (clip_in alone t).number (ap (λ (r : ClipOfStamp). r.number) (clip-alike t))

-- the memory keeps its length
length-stays : (h : Held) (o : Operation) → length (operated h o).after.memory ≡ length h.memory
length-stays h (add t) =
    add-rows h t (λ y. length y.after.memory ≡ length h.memory) (λ _. refl) (λ _ _. refl) (λ _ _ _. refl)
    (λ fine clear room. (add-leaves h (sound h fine) t clear room).length-stays)
length-stays h (remove t) =
    remove-rows h t (λ y. length y.after.memory ≡ length h.memory) (λ _. refl) (λ _ _. refl)
    (λ fine there. (remove-leaves h (sound h fine) t there).length-stays)
length-stays h empty =
    empty-rows h (λ y. length y.after.memory ≡ length h.memory) (λ _. refl) (λ fine. (empty-leaves h (sound h fine)).length-stays)
length-stays h (nearest t) = refl
length-stays h (span a b) = refl
length-stays h (clip t) = refl

pub rest-untouched : (l : CutList) (first xs ys : List ℤ) → length first ≡ places → RestUntouched l first xs ys
rest-untouched l first xs ys len =
    record {
      numbers = λ o. ap (λ (y : Turn). y.number) (with-xs o) ∙ sym (ap (λ (y : Turn). y.number) (with-ys o));
      lists = λ o. ap (λ (y : Turn). y.after.list) (with-xs o) ∙ sym (ap (λ (y : Turn). y.after.list) (with-ys o));
      firsts = λ o. rw (with-xs o, with-ys o, take_at (left o) xs places (long o), take_at (left o) ys places (long o));
      rests = λ o. rw (with-xs o) (drop_at (left o) xs places (long o));
      nearests = λ t. nearest-alike l first len xs t ∙ sym (nearest-alike l first len ys t);
      spans = λ a b. span-alike l first len xs a b ∙ sym (span-alike l first len ys a b);
      clips = λ t. clip-alike l first len xs t ∙ sym (clip-alike l first len ys t);
    }
  where
    with-xs : (o : Operation) → operated (held l (first ++ xs)) o ≡ over xs (operated (held l first) o)
    with-xs = operated-over l first len xs

    with-ys : (o : Operation) → operated (held l (first ++ ys)) o ≡ over ys (operated (held l first) o)
    with-ys = operated-over l first len ys

    left : Operation → List ℤ
    left o = (operated (held l first) o).after.memory

    long : (o : Operation) → length (left o) ≡ places
    long o = length-stays (held l first) o ∙ len
