-- The bytes that are held of a line, and bytes of which only the last may be a line feed.
use mathlib.Core.Path.{◌≡◌, refl, sym, ap, ◌∙◌}
use mathlib.Core.Bool.{Bool, true, false}
use mathlib.Core.List.{List, [], ◌∷◌, ◌++◌, append_assoc, append-nil}
use Prim.Native.Nat.{ℕ, suc, ◌+◌, ◌-◌, ◌≤◌, ◌<◌, min}
use native.Mathlib.Omega.{arith}
use lib.Dec.{eqb, ltb}
use lib.ListN.{length, get_or, take, length-append, length-take}
use lib.Seq.{length-take-le, take_all, take-append-le, take-append-add}
use borrow.Author.Tests.{ltb-true, ltb-false, eqb-true}
use borrow.Rule.Slice.PartMut.{put_mid}
use Rattle.std.proofs.lemmas.Slice.{take-put_mid}
use Rattle.session.specs.Feeding.{State, hold, next, text_of, fed, fed_text, held_after, before_feed}

-- of the bytes that follow, the first 8,193 of the line are held
full : (held : List ℕ) (b : ℕ) (bs : List ℕ) (t : Bool) → ltb (length held) 8193 ≡ t → length held ≤ 8193 → (length (hold held b) ≤ 8193) × (take 8193 (hold held b ++ bs) ≡ take 8193 (held ++ (b ∷ bs)))
full held b bs true e h = let less = ltb-true (length held) 8193 e in rw (e, append_assoc held (b ∷ []) bs) (omega (arith, length-append held (b ∷ [])), refl)
full held b bs false e h =
    let more = ltb-false (length held) 8193 e in
    rw e (h, take-append-le 8193 held bs more ∙ sym (take-append-le 8193 held (b ∷ bs) more))

pub held-take : (held bs : List ℕ) → length held ≤ 8193 → held_after held bs ≡ take 8193 (held ++ bs)
unfolding held_after
held-take held [] h = rw (append-nil held) (sym (take_all 8193 held h))
held-take held (b ∷ bs) h =
    let f = full held b bs (ltb (length held) 8193) refl h in
    held-take (hold held b) bs f.0 ∙ f.1

-- a length over 8,193 stands for the whole line
pub taken-within : (line : List ℕ) (n k : ℕ) → length line ≡ 8193 → k ≡ min n 8193 → take k line ≡ take n line
taken-within line n k size first = by-test (ltb n 8193) refl
  where
    by-test : (t : Bool) → ltb n 8193 ≡ t → take k line ≡ take n line
    by-test true e = let less = ltb-true n 8193 e in let same : k ≡ n = omega arith in rw same refl
    by-test false e = let more = ltb-false n 8193 e in take_all k line (omega arith) ∙ sym (take_all n line (omega arith))

-- the first 8,193 of the bytes that are held and of others after them
first-of : (x bytes : List ℕ) (k m : ℕ) → length x ≡ k → m ≡ min (length bytes) (8193 - k) → k ≤ 8193 → take 8193 (x ++ bytes) ≡ x ++ take m bytes
first-of x bytes k m size more h = by-test (ltb (length bytes) (8193 - k)) refl
  where
    by-test : (t : Bool) → ltb (length bytes) (8193 - k) ≡ t → take 8193 (x ++ bytes) ≡ x ++ take m bytes
    by-test true e =
        let less = ltb-true (length bytes) (8193 - k) e in
        take_all 8193 (x ++ bytes) (omega (arith, length-append x bytes)) ∙ ap (λ (l : List ℕ). x ++ l) (sym (take_all m bytes (omega arith)))
    by-test false e =
        let more' = ltb-false (length bytes) (8193 - k) e in
        let whole : 8193 ≡ length x + m = omega arith in
        rw whole (take-append-add x bytes m)

-- the line that `hold` leaves
pub held-written : (line bytes : List ℕ) (n k e m : ℕ) (part : List ℕ) → length line ≡ 8193 → k ≡ min n 8193 → m ≡ min (length bytes) (8193 - k) → e ≡ k + m → part ≡ take m bytes
    → take e (put_mid k (e - k) line part) ≡ held_after (take n line) bytes
held-written line bytes n k e m part size first more end same =
    let held : take k line ≡ take n line = taken-within line n k size first in
    let short : length (take n line) ≡ k = rw (← held) (length-take-le k line (omega (arith, first))) in
    let put : take e (put_mid k (e - k) line part) ≡ take k line ++ part =
    take-put_mid k (e - k) line part e (omega (arith, ap length same, length-take m bytes, more, end)) (omega (arith, first)) in
    put ∙ rw (held, same, held-take (take n line) bytes (omega (arith, short, first))) (sym (first-of (take n line) bytes k m short more (omega (arith, first))))

-- bytes of which none is a line feed join the line, and bring no text
quiet-before : (b : ℕ) (bs : List ℕ) (t : Bool) → eqb b 10 ≡ t → before_feed (b ∷ bs) ≡ suc (length bs) → (eqb b 10 ≡ false) × (before_feed bs ≡ length bs)
unfolding before_feed
quiet-before b bs true e h = absurd (omega (arith, rw e at h))
quiet-before b bs false e h = (e, omega (arith, rw e at h))

pub fed-quiet : (s : State) (bs : List ℕ) → before_feed bs ≡ length bs → fed s bs ≡ record { place = s.place; held = held_after s.held bs }
unfolding fed next held_after
fed-quiet s [] h = refl
fed-quiet s (b ∷ bs) h = let q = quiet-before b bs (eqb b 10) refl h in fed-quiet (next s b) bs q.1 ∙ rw q.0 refl

pub text-quiet : (s : State) (bs : List ℕ) → before_feed bs ≡ length bs → fed_text s bs ≡ []
unfolding fed_text text_of
text-quiet s [] h = refl
text-quiet s (b ∷ bs) h = let q = quiet-before b bs (eqb b 10) refl h in rw q.0 (text-quiet (next s b) bs q.1)

-- the bytes before a last line feed
pub before-last : (line rest : List ℕ) → length line ≤ before_feed (line ++ rest) → before_feed line ≡ length line
unfolding before_feed
before-last [] rest h = refl
before-last (b ∷ bs) rest h = by-test (eqb b 10) refl h (before-last bs rest)
  where
    by-test : (t : Bool) → eqb b 10 ≡ t → suc (length bs) ≤ before_feed (b ∷ (bs ++ rest)) → (length bs ≤ before_feed (bs ++ rest) → before_feed bs ≡ length bs) → before_feed (b ∷ bs) ≡ suc (length bs)
    by-test true e h ih = absurd (omega (arith, rw e at h))
    by-test false e h ih = rw e (ap suc (ih (omega (arith, rw e at h))))

-- bytes that do not end with a line feed
feed-at : (bs : List ℕ) → before_feed bs < length bs → get_or bs (before_feed bs) 0 ≡ 10
unfolding before_feed
feed-at [] h = absurd (omega arith)
feed-at (b ∷ bs) h = by-test (eqb b 10) refl h (feed-at bs)
  where
    by-test : (t : Bool) → eqb b 10 ≡ t → before_feed (b ∷ bs) < suc (length bs) → (before_feed bs < length bs → get_or bs (before_feed bs) 0 ≡ 10) → get_or (b ∷ bs) (before_feed (b ∷ bs)) 0 ≡ 10
    by-test true e h ih = rw e (eqb-true b 10 e)
    by-test false e h ih = rw e (ih (omega (arith, rw e at h)))

before-within : (bs : List ℕ) → before_feed bs ≤ length bs
unfolding before_feed
before-within [] = omega arith
before-within (b ∷ bs) = by-test (eqb b 10) refl (before-within bs)
  where
    by-test : (t : Bool) → eqb b 10 ≡ t → before_feed bs ≤ length bs → before_feed (b ∷ bs) ≤ suc (length bs)
    by-test true e h = rw e (omega arith)
    by-test false e h = rw e (omega arith)

pub before-all : (bs : List ℕ) → length bs ≤ before_feed bs + 1 → (0 < length bs → get_or bs (length bs - 1) 0 ≡ 10 → ⊥) → before_feed bs ≡ length bs
before-all bs h other = by-test (ltb (before_feed bs) (length bs)) refl
  where
    by-test : (t : Bool) → ltb (before_feed bs) (length bs) ≡ t → before_feed bs ≡ length bs
    by-test true e =
        let less = ltb-true (before_feed bs) (length bs) e in
        let last : before_feed bs ≡ length bs - 1 = omega arith in
        absurd (other (omega arith) (rw (← last) (feed-at bs less)))
    by-test false e = let more = ltb-false (before_feed bs) (length bs) e in omega (arith, before-within bs)

-- no line feed before place n
pub before-from : (bs : List ℕ) (n : ℕ) → n ≤ length bs → ((k : ℕ) → k < n → get_or bs k 0 ≡ 10 → ⊥) → n ≤ before_feed bs
before-from bs n h none = by-test (ltb (before_feed bs) n) refl
  where
    by-test : (t : Bool) → ltb (before_feed bs) n ≡ t → n ≤ before_feed bs
    by-test true e = let less = ltb-true (before_feed bs) n e in absurd (none (before_feed bs) less (feed-at bs (omega arith)))
    by-test false e = ltb-false (before_feed bs) n e
