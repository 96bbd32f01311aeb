-- The end of a line; bytes that end with a line feed or have none, fed piece by piece; and the end of the input.
use mathlib.Core.Path.{◌≡◌, refl, sym, ap, ◌∙◌}
use mathlib.Core.Bool.{Bool, true, false, cond}
use mathlib.Core.List.{List, [], ◌∷◌, ◌++◌, append-nil}
use Prim.Native.Nat.{ℕ, zero, suc, ◌+◌, ◌-◌, ◌≤◌, ◌<◌, min}
use native.Mathlib.Omega.{arith}
use lib.Dec.{eqb, ltb}
use lib.ListN.{length, get_or, take, drop, take-append-drop, length-append, length-take, length-drop, drop_of_length-le}
use lib.Pointwise.{pointwise}
use lib.Seq.{length-take-le, take-take, take-add, drop-cons}
use borrow.Author.Tests.{eqb-true, ne_eqb, ltb-true, ltb-false}
use Rattle.laws.proofs.Bools.{and-true}
use Rattle.content.specs.State.{Answer}
use Rattle.content.specs.declared.Detector.{Detector}
use Rattle.decimal.specs.declared.Writer.{Writer}
use Rattle.decimal.specs.Placed.{Wrote}
use Rattle.decimal.proofs.Writes.{wrote_none, wrote_next, wrote-inside}
use Rattle.session.specs.declared.Session.{Session}
use Rattle.session.specs.Output.{Place, line_call, after, next_number, line_text}
use Rattle.session.specs.Feeding.{State, next, text_of, fed, fed_text, last_text, held_after, before_feed}
use Rattle.session.specs.Sessions.{place_of, state_of, last_state}
use Rattle.session.proofs.Texts.{line-length}
use Rattle.session.specs.Promises.{Feeds, Filled, Calls, Ends, Holds, Takes}
use Rattle.session.proofs.Chunks.{fed-append, text-append}
use Rattle.session.proofs.Holding.{fed-quiet, text-quiet, before-last, before-all}

-- the end of a line, from what its call, its text and its number are
number-next : (n : ℕ) → n < 18446744073709551616 → min (n + 1) 18446744073709551615 ≡ next_number n
number-next n h = by-test (ltb n 18446744073709551615) refl
  where
    by-test : (t : Bool) → ltb n 18446744073709551615 ≡ t → min (n + 1) 18446744073709551615 ≡ next_number n
    by-test true e = let less = ltb-true n 18446744073709551615 e in rw e (omega arith)
    by-test false e = let more = ltb-false n 18446744073709551615 e in rw e (omega arith)

pub line_ends : (s s₁ : Session) (w w' : Writer) (a : Answer) (d : Detector) (n : ℕ) → s.number < 18446744073709551616
    → Calls s (line_call (place_of s) (take s.length s.line)) a s₁
    → d ≡ a.detector → n ≡ min (s₁.number + 1) 18446744073709551615 → Wrote w (line_text s₁.number a) w'
    → Ends s w (record s₁ { detector = d; number = n; length = 0 }) w'
unfolding after
line_ends s s₁ w w' a d n small C p q t =
    let same : s₁.number ≡ s.number = ap (λ (r : Session). r.number) C.others in
    let next : n ≡ next_number s.number = q ∙ rw same (number-next s.number small) in
    record { none = refl; line = ap (λ (r : Session). r.line) C.others; place = rw (p, next, C.store_after, C.value) refl; text = rw (← C.value, ← same) t }

-- a last byte that is a line feed, as std tests it
abbrev ends : List ℕ → Bool
ends bs = pointwise eqb (drop (length bs - 1) bs) (10 ∷ [])

one : (ys : List ℕ) → pointwise eqb ys (10 ∷ []) ≡ true → ys ≡ 10 ∷ []
one [] e = cc
one (y ∷ []) e = ap (λ (b : ℕ). b ∷ []) (eqb-true y 10 (and-true (eqb y 10) true e).0)
one (y ∷ z ∷ zs) e = let no_more = (and-true (eqb y 10) false e).1 in cc

last-feed : (bs line : List ℕ) → ends bs ≡ true → line ≡ take (length bs - 1) bs → bs ≡ line ++ (10 ∷ [])
last-feed bs line e same = rw (same, ← one (drop (length bs - 1) bs) e) (sym (take-append-drop (length bs - 1) bs))

last-other : (bs : List ℕ) → ends bs ≡ false → 0 < length bs → get_or bs (length bs - 1) 0 ≡ 10 → ⊥
last-other bs e some is =
    let n = length bs - 1 in
    let last : drop n bs ≡ 10 ∷ [] = drop-cons bs n 0 (omega arith) ∙ rw (is, drop_of_length-le bs {i = suc n} (omega arith)) refl in
    let no_feed = rw last at e in
    cc

-- a line feed ends the line
fed-line : (s : State) (line : List ℕ) → before_feed line ≡ length line → fed s (line ++ (10 ∷ [])) ≡ record { place = after s.place (held_after s.held line); held = [] }
unfolding fed next
fed-line s line quiet = fed-append s line (10 ∷ []) ∙ rw (fed-quiet s line quiet) refl

text-line : (s : State) (line : List ℕ) → before_feed line ≡ length line → fed_text s (line ++ (10 ∷ [])) ≡ line_text s.place.number (line_call s.place (held_after s.held line)).answer
unfolding fed_text text_of
text-line s line quiet =
    text-append s line (10 ∷ []) ∙ rw (text-quiet s line quiet, fed-quiet s line quiet) (append-nil (line_text s.place.number (line_call s.place (held_after s.held line)).answer))

same-place : (s s₁ : Session) (bytes : List ℕ) → Holds s bytes s₁ → place_of s₁ ≡ place_of s
same-place s s₁ bytes H = ap place_of H.others

pub feeds-line : (s s₁ s₂ : Session) (w w' : Writer) (bytes line : List ℕ) → ends bytes ≡ true → line ≡ take (length bytes - 1) bytes → length bytes ≤ before_feed bytes + 1
    → Holds s line s₁ → Ends s₁ w s₂ w' → (state_of s₂ ≡ fed (state_of s) bytes) × Wrote w (fed_text (state_of s) bytes) w'
feeds-line s s₁ s₂ w w' bytes line e rest alone H E =
    let split = last-feed bytes line e rest in
    let quiet : before_feed line ≡ length line = before-last line (10 ∷ []) (rw (← split) (omega (arith, alone, ap length split, length-append line (10 ∷ [])))) in
    let p = same-place s s₁ line H in
    let number : s₁.number ≡ s.number = ap (λ (q : Place). q.number) p in
    (rw (split, fed-line (state_of s) line quiet, E.none, E.place, p, H.held) refl, rw (split, text-line (state_of s) line quiet, ← H.held, ← p, ← number) E.text)

pub feeds-quiet : (s s₁ : Session) (w : Writer) (bytes : List ℕ) → ends bytes ≡ false → length bytes ≤ before_feed bytes + 1 → Holds s bytes s₁
    → (state_of s₁ ≡ fed (state_of s) bytes) × Wrote w (fed_text (state_of s) bytes) w
feeds-quiet s s₁ w bytes e alone H =
    let quiet = before-all bytes alone (last-other bytes e) in
    (rw (fed-quiet (state_of s) bytes quiet, same-place s s₁ bytes H, H.held) refl, rw (text-quiet (state_of s) bytes quiet) (wrote_none w))

-- the end of the input: nothing is held, or a line is ended
pub finishes-none : (s : Session) (w : Writer) → s.length ≤ 0 → (state_of s ≡ last_state (state_of s)) × Wrote w (last_text (state_of s)) w
unfolding last_state last_text
finishes-none s w e = let none : s.length ≡ 0 = omega arith in (rw none refl, rw none (wrote_none w))

pub finishes-line : (s s' : Session) (w w' : Writer) → length s.line ≡ 8193 → 0 < s.length → Ends s w s' w' → (state_of s' ≡ last_state (state_of s)) × Wrote w (last_text (state_of s)) w'
unfolding last_state last_text
finishes-line s s' w w' size some E =
    let long : eqb (length (take s.length s.line)) 0 ≡ false = ne_eqb (length (take s.length s.line)) 0 (λ z. omega (arith, z, length-take s.length s.line)) in
    (rw (long, E.none, E.place) refl, rw long E.text)

-- the first `taken` bytes of a chunk are fed, and there may be room for more
pub record Taken (s : State) (chunk : List ℕ) (w : Writer) (s' : State) (w' : Writer) (taken : ℕ) : Type 0 where
  pub within : taken ≤ length chunk
  pub state : s' ≡ fed s (take taken chunk)
  pub text : Wrote w (fed_text s (take taken chunk)) w'
  pub inside : w'.at ≤ length w.out.now

pub taken_none : (s : State) (chunk : List ℕ) (w : Writer) → w.at ≤ length w.out.now → Taken s chunk w s w 0
unfolding fed fed_text
taken_none s chunk w h = record { within = omega arith; state = refl; text = wrote_none w; inside = h }

-- and then the t bytes x
pub taken_more : (s s' s'' : State) (chunk : List ℕ) (w w' w'' : Writer) (a t : ℕ) (x : List ℕ) → w.at ≤ length w.out.now → Taken s chunk w s' w' a → x ≡ take t (drop a chunk) → length x ≡ t → s'' ≡ fed s' x → Wrote w' (fed_text s' x) w''
    → Taken s chunk w s'' w'' (a + t)
taken_more s s' s'' chunk w w' w'' a t x room T part size then wrote =
    let first = take a chunk in
    let whole : take (a + t) chunk ≡ first ++ x = take-add a t chunk ∙ rw part refl in
    let text = wrote_next room T.text (rw T.state at wrote) in
    record {
      within = omega (arith, T.within, size, ap length part, length-take t (drop a chunk), length-drop a chunk);
      state = then ∙ rw (whole, fed-append s first x, T.state) refl;
      text = rw (whole, text-append s first x) text;
      inside = omega (arith, wrote-inside room text, text.size);
    }

-- and then what is taken of the next k bytes
pub taken_part : (s s' s'' : State) (chunk : List ℕ) (w w' w'' : Writer) (a k t : ℕ) → w.at ≤ length w.out.now → Taken s chunk w s' w' a → Takes s' (take k (drop a chunk)) w' s'' w'' t → Taken s chunk w s'' w'' (a + t)
taken_part s s' s'' chunk w w' w'' a k t room T P =
    let part : take t (take k (drop a chunk)) ≡ take t (drop a chunk) = take-take t k (drop a chunk) (omega (arith, P.within, length-take k (drop a chunk))) in
    taken_more s s' s'' chunk w w' w'' a t _ room T part (length-take-le t (take k (drop a chunk)) P.within) P.state P.text

pub part-size : (a e : ℕ) (l : List ℕ) → e ≤ length l → length (take (e - a) (drop a l)) ≡ e - a
part-size a e l h = omega (arith, length-take (e - a) (drop a l), length-drop a l)

-- there is no room for another line's text, or nothing is left to take
pub takes : (s s' : State) (chunk : List ℕ) (w w' : Writer) (taken : ℕ) → Taken s chunk w s' w' taken → (taken < length chunk → length w.out.now < w'.at + 64) → Takes s chunk w s' w' taken
takes s s' chunk w w' taken T full = record { within = T.within; state = T.state; text = T.text; inside = T.inside; full = full }

-- the state after the first a bytes and then t of the next k is that after the first a + t
pub fed_then : (s s' s'' : State) (chunk : List ℕ) (a k t : ℕ) → s' ≡ fed s (take a chunk) → t ≤ length (take k (drop a chunk)) → s'' ≡ fed s' (take t (take k (drop a chunk)))
    → s'' ≡ fed s (take (a + t) chunk)
fed_then s s' s'' chunk a k t first within then =
    then
    ∙ rw (take-take t k (drop a chunk) (omega (arith, within, length-take k (drop a chunk))), take-add a t chunk, fed-append s (take a chunk) (take t (drop a chunk)))
    (ap (λ (q : State). fed q (take t (drop a chunk))) first)

-- with room for a line, something is taken
pub feeds-some : (s s' : State) (chunk out out' : List ℕ) (t w : ℕ) → Feeds s chunk out 0 s' out' t w → Filled chunk out 0 t w → 64 ≤ length out → 0 < length chunk → 0 < t
unfolding fed_text
feeds-some s s' chunk out out' zero w f g room some = absurd (omega (arith, g.full some, room, f.size))
feeds-some s s' chunk out out' (suc t) w f g room some = omega arith

-- 64 bytes are enough for the last line's text
last-by : (s : State) (t : Bool) → length (cond t [] (line_text s.place.number (line_call s.place s.held).answer)) ≤ 64
last-by s true = omega arith
last-by s false = line-length s.place.number (line_call s.place s.held).answer

pub last-length : (s : State) → length (last_text s) ≤ 64
unfolding last_text
last-length s = last-by s (eqb (length s.held) 0)
