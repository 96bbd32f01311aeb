-- The cuts of a stretch, in Suppress with a minimum of at least 1, can be added in their order to an empty list of that minimum (RULES 17.12).
-- Assumes nothing else.
use Rattle.std.proofs.Common.{Option}
use Prim.Native.Nat.{ℕ, suc, ◌+◌, ◌-◌, ◌≤◌, min}
use native.Mathlib.Nat.{zero-min, min-zero, suc-min-suc, zero-sub, sub-zero, suc-sub-suc}
use native.Mathlib.Omega.{arith}
use mathlib.Core.Path.{◌≡◌, refl, sym, ap, ◌∙◌, subst}
use mathlib.Core.Bool.{false, true≢false, true}
use mathlib.Core.List.{List, [], ◌∷◌, ◌++◌, map}
use lib.IntN.{ℤ, pos, ◌+ℤ◌}
use lib.ListN.{length, replicate}
use lib.Signed.{◌≤ℤ◌}
use Rattle.laws.specs.Lists.{All}
use Rattle.laws.proofs.All.{all_map}
use Rattle.laws.proofs.Whole.{sum-read, le_read}
use Rattle.filter.specs.declared.FilterMode.{FilterMode}
use Rattle.filter.specs.declared.FilterMode.TheVariants.{Suppress}
use Rattle.filter.specs.declared.FilterOptions.{FilterOptions}
use Rattle.filter.specs.Calls.{Answered}
use Rattle.filter.specs.Claim.{Stretch, stretches, scored_frames, cuts, KeepsDistance, Suppressed, InMode, StretchKeeps, StretchesHold}
use Rattle.frame_call.specs.Call.{Call}
use Rattle.content.specs.declared.Options.{Options}
use Rattle.content.specs.Options.{filter_options, options_refusal}
use Rattle.content_claim.specs.Claim.{content_run, with_cut}
use Rattle.content_claim.proofs.Theorem.{content-claim}
use Rattle.cut_list.specs.Record.{places, Held, held, new_list, stamps_of, in_order}
use Rattle.cut_list.specs.Change.{too_close, with_stamp}
use Rattle.cut_list.proofs.Tests.{Past}
use Rattle.cut_list.proofs.Order.{any_of-none, all_past}
use Rattle.cut_list.proofs.Brought.{Sound}
use Rattle.cut_list_claim.specs.Run.{add, Operated, list_run}
use Rattle.cut_list_claim.specs.Claim.{FitsList}
use Rattle.cut_list_claim.proofs.Order.{Sorted, in-order-read, past-clear, insert_all}
use Rattle.cut_list_claim.proofs.Steps.{bad-not, is_close, add-rows, add-leaves}
use Rattle.cut_list_claim.proofs.Theorem.{new-sound}
use Rattle.timestamp.specs.declared.Timestamp.{Timestamp}

-- ---- stamps that keep a distance of at least 1 are in order

keeps-sorted : (d : ℕ) → 1 ≤ d → (ts : List ℤ) → KeepsDistance d ts → Sorted d ts
keeps-sorted d one [] k = tt
keeps-sorted d one (x ∷ []) k = (tt, tt)
keeps-sorted d one (x ∷ y ∷ ys) k = let s = keeps-sorted d one (y ∷ ys) k.1 in let p = follow k.0 in ((p, all_past ys p s.0), s)
  where
    follow : (x +ℤ pos d) ≤ℤ y → Past d x y
    follow h =
        let far = le_read {a = x +ℤ pos d} {b = y} h in
        record { later = omega (arith, sum-read x (pos d)); far = omega (arith, sum-read x (pos d)) }

-- ---- stamps added one after another

-- the numbers that adding these stamps is answered
abbrev numbers : Held → List ℤ → List ℕ
numbers h ts = map (λ (y : Operated). y.number) (list_run h (map add ts))

-- 0 while there is room, then 18
abbrev fitting : (room many : ℕ) → List ℕ
fitting room n = replicate (min room n) 0 ++ replicate (n - room) 18

fitting-none : (room : ℕ) → [] ≡ fitting room 0
fitting-none room = rw (min-zero room, zero-sub room)

fitting-full : (n : ℕ) → 18 ∷ fitting 0 n ≡ fitting 0 (suc n)
fitting-full n = rw (zero-min n, zero-min (suc n), sub-zero n, sub-zero (suc n))

fitting-more : (room n : ℕ) → 0 ∷ fitting room n ≡ fitting (suc room) (suc n)
fitting-more room n = rw (suc-min-suc room n, suc-sub-suc n room)

-- a list of minimum d with room for that many, whose stamps are followed by all of ts
record Open (d room : ℕ) (ts : List ℤ) (h : Held) : Type 0 where
  sound : Sound h
  minimum : h.list.min_duration ≡ d
  room-is : h.list.count + room ≡ places
  followed-by : All (λ (x : ℤ). All (Past d x) ts) (stamps_of h)

module _ (d : ℕ) (t : ℤ) (ts : List ℤ) (later : All (Past d t) ts) (room : ℕ) (h : Held) (o : Open d room (t ∷ ts) h) where
  not-close : is_close h t ≡ false
  not-close = rw o.minimum (any_of-none (too_close d t) (stamps_of h) (all_map (λ x a. past-clear d t x a.0) (stamps_of h) o.followed-by))

  -- the list is full, and stays as it was
  still_open : Open d room ts h
  still_open =
      record {
        sound = o.sound;
        minimum = o.minimum;
        room-is = o.room-is;
        followed-by = all_map (λ x a. a.1) (stamps_of h) o.followed-by;
      }

  -- it has one stamp more, and that one is followed by the others too
  more-open : (h.list.count ≡ places → ⊥) → Open d (room - 1) ts (with_stamp h t)
  unfolding with_stamp
  more-open free =
      let l = add-leaves h o.sound t not-close free in
      record {
        sound = l.sound;
        minimum = o.minimum;
        room-is = omega (arith, o.room-is);
        followed-by = rw l.stamps-are (insert_all t (λ x. All (Past d x) ts) (stamps_of h) later still_open.followed-by);
      }

  module _ (ih : (k : ℕ) (next : Held) → Open d k ts next → numbers next ts ≡ fitting k (length ts)) where
    if-full : h.list.count ≡ places → 18 ∷ numbers h ts ≡ fitting room (suc (length ts))
    if-full e =
        let none : room ≡ 0 = omega (arith, o.room-is) in
        ap (λ (ns : List ℕ). 18 ∷ ns) (ih room h still_open) ∙ rw none (fitting-full (length ts))

    if-free : (h.list.count ≡ places → ⊥) → 0 ∷ numbers (with_stamp h t) ts ≡ fitting room (suc (length ts))
    if-free free =
        let some : suc (room - 1) ≡ room = omega (arith, o.room-is) in
        ap (λ (ns : List ℕ). 0 ∷ ns) (ih (room - 1) (with_stamp h t) (more-open free)) ∙ fitting-more (room - 1) (length ts)
        ∙ ap (λ (k : ℕ). fitting k (suc (length ts))) some

    add-one : numbers h (t ∷ ts) ≡ fitting room (suc (length ts))
    add-one =
        add-rows h t (λ y. (y.number ∷ numbers y.after ts) ≡ fitting room (suc (length ts)))
        (bad-not h o.sound)
        (λ _ e. absurd (true≢false (sym e ∙ not-close)))
        (λ _ _. if-full)
        (λ _ _. if-free)

add-all : (d : ℕ) (ts : List ℤ) → Sorted d ts → (room : ℕ) (h : Held) → Open d room ts h → numbers h ts ≡ fitting room (length ts)
add-all d [] s room h o = fitting-none room
add-all d (t ∷ ts) s room h o = add-one d t ts s.0 room h o (λ k next p. add-all d ts s.1 k next p)

-- stamps in order go into an empty list, whatever its minimum
sorted-fit : (d : ℕ) (memory : List ℤ) → places ≤ length memory → (ts : List ℤ) → Sorted d ts → FitsList d memory ts
unfolding new_list
sorted-fit d memory long ts s =
    add-all d ts s places (held (new_list d) memory)
    (record { sound = new-sound d memory long; minimum = refl; room-is = omega arith; followed-by = tt })

pub ordered-fit : (d : ℕ) (memory : List ℤ) → places ≤ length memory → (ts : List ℤ) → in_order d ts ≡ true → FitsList d memory ts
ordered-fit d memory long ts o = sorted-fit d memory long ts (in-order-read d ts o)

-- and so do stamps that keep a distance of at least 1
pub keeps-fit : (d : ℕ) → 1 ≤ d → (memory : List ℤ) → places ≤ length memory → (ts : List ℤ) → KeepsDistance d ts → FitsList d memory ts
keeps-fit d one memory long ts k = sorted-fit d memory long ts (keeps-sorted d one ts k)

-- ---- the cuts of a stretch

module _ (o : FilterOptions) (mode : o.filter_mode ≡ Suppress) (one : 1 ≤ o.min_duration)
    (memory : List ℤ) (long : places ≤ length memory) where
  stretch-fits : (t : Stretch (Option Timestamp)) → StretchKeeps o t → FitsList o.min_duration memory (cuts t)
  stretch-fits t keeps =
      let s : Suppressed o (scored_frames t) (cuts t) = subst (λ (m : FilterMode). InMode m o (scored_frames t) (cuts t)) mode keeps in
      keeps-fit o.min_duration one memory long (cuts t) (subst (KeepsDistance o.min_duration) s.are-cuts s.allowed.distance)

  pub stretches-fit : (xs : List (Answered (Option Timestamp))) → StretchesHold o xs
      → All (λ (t : Stretch (Option Timestamp)). FitsList o.min_duration memory (cuts t)) (stretches xs)
  stretches-fit xs holds = all_map stretch-fits (stretches xs) holds.each-stretch

-- the cuts that the content detector answers in a stretch
pub cuts_fit : (o : Options) → options_refusal o ≡ 0 → o.filter_mode ≡ Suppress → 1 ≤ o.min_duration
    → (memory : List ℤ) → places ≤ length memory → (calls : List Call)
    → All (λ (t : Stretch (Option Timestamp)). FitsList o.min_duration memory (cuts t)) (stretches (map (with_cut o) (content_run o calls)))
cuts_fit o accepted mode one memory long calls =
    stretches-fit (filter_options o) mode one memory long (map (with_cut o) (content_run o calls)) (content-claim o accepted calls).holds
