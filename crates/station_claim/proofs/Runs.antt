-- What a list of station calls brings, for either detector: what the definition of the calls gives, one call after the other.
use Rattle.std.proofs.Common.{None, Option}
use mathlib.Core.Path.{◌≡◌, refl, sym, ap, subst, ◌∙◌}
use mathlib.Core.Bool.{Bool, true, false, cond, not}
use mathlib.Core.List.{List, [], ◌∷◌, map}
use Prim.Native.Nat.{ℕ, ◌<◌}
use borrow.Author.Tests.{eqb-true}
use lib.Dec.{eqb}
use Rattle.laws.specs.Lists.{All, leave_out}
use Rattle.frame_call.specs.Call.{Memory, Call, clear}
use Rattle.frame_call.specs.Run.{own_number}
use Rattle.station_answer.specs.Answer.{answer_words, cut_in}
use Rattle.station_answer.specs.Promises.{Layout, Brought, FrameContract}
use Rattle.station_claim.specs.Run.{is_frame, StationCall, was_refused, cut_read, Made, by-frame, by-clear, MadeFrom, none, then}
use Rattle.station_claim.specs.Claim.{EachCall}
use Rattle.timestamp.specs.declared.Timestamp.{Timestamp}

-- what the claim speaks of: a call, its number, and the cut or none
pub record Heard : Type 0 where
  pub call : Call
  pub number : ℕ
  pub cut : Option Timestamp

abbrev pub heard_from : StationCall → Heard
heard_from y = record { call = y.call; number = y.number; cut = cut_read y }

all-mapped : (P : Heard → Type 0) (ys : List StationCall) → All P (map heard_from ys) → All (λ (y : StationCall). P (heard_from y)) ys
all-mapped P [] a = tt
all-mapped P (y ∷ ys) a = (a.0, all-mapped P ys a.1)

module _ {D : Type 0} (l : Layout D) (calls : D → Call → Brought D)
    (none_refused : (d : D) (c : Call) → eqb (calls d c).number 0 ≡ false → (calls d c).cut ≡ None)
    (none_cleared : (d : D) → (calls d clear).cut ≡ None) where
  abbrev call_of : StationCall → Call
  call_of y = y.call

  -- what the definition gives, one call after the other
  abbrev pub heard_by : D → List Call → List Heard
  heard_by d [] = []
  heard_by d (c ∷ cs) = record { call = c; number = (calls d c).number; cut = (calls d c).cut } ∷ heard_by (calls d c).detector cs

  -- ---- one call

  number_is : {s : List ℕ} {y : StationCall} → Made l calls s y → y.number ≡ (calls (l.held_by s) y.call).number
  number_is (by-frame c f t) = t.number
  number_is (by-clear t) = t.number

  held-is : {s : List ℕ} {y : StationCall} → Made l calls s y → l.held_by y.state ≡ (calls (l.held_by s) y.call).detector
  held-is (by-frame c f t) = t.read_back
  held-is (by-clear t) = t.read_back

  -- a refused call leaves the state's words
  words-stay : {s : List ℕ} {y : StationCall} → Made l calls s y → eqb y.number 0 ≡ false → y.state ≡ s
  words-stay (by-frame c f t) e = t.state ∙ rw e
  words-stay (by-clear t) e = t.state ∙ rw e

  -- the cut that is read is the definition's
  frame-cut : {s s' a a' : List ℕ} {r : ℕ} {m m' : Memory} (c : Call) → FrameContract l (calls (l.held_by s) c) r s s' a a' m m' → (b : Bool) → eqb r 0 ≡ b
      → cond b (cut_in a') None ≡ (calls (l.held_by s) c).cut
  frame-cut {r = r} c t true e = (t.answer_back (eqb-true r 0 e)).the-cut
  frame-cut {s = s} {r = r} c t false e = sym (none_refused (l.held_by s) c (ap (λ n. eqb n 0) (sym t.number) ∙ e))

  clear-cut : (d : D) (b : Bool) → cond b (cut_in []) None ≡ (calls d clear).cut
  clear-cut d true = sym (none_cleared d)
  clear-cut d false = sym (none_cleared d)

  cut-is : {s : List ℕ} {y : StationCall} → Made l calls s y → cut_read y ≡ (calls (l.held_by s) y.call).cut
  cut-is (by-frame {r = r} c f t) = frame-cut c t (eqb r 0) refl
  cut-is {s = s} (by-clear {r = r} t) = clear-cut (l.held_by s) (eqb r 0)

  -- what an accepted call shows is the definition's
  abbrev shown : Call → Brought D → StationCall
  shown c b =
      record {
        call = c;
        number = 0;
        state = l.words_of b.detector;
        answer = cond (is_frame c) (answer_words b.cut b.score b.components b.sums) [];
        store = cond (is_frame c) b.store [];
      }

  shown-is : {s : List ℕ} {y : StationCall} → Made l calls s y → eqb y.number 0 ≡ true → y ≡ shown y.call (calls (l.held_by s) y.call)
  shown-is (by-frame {r = r} c f t) e = rw (f, t.answer, t.state, e, t.store, eqb-true r 0 e)
  shown-is (by-clear {r = r} t) e = rw (t.state, e, eqb-true r 0 e)

  -- ---- a list of calls

  pub heard-is : {s : List ℕ} {ys : List StationCall} → MadeFrom l calls s ys → (d : D) → l.held_by s ≡ d → map heard_from ys ≡ heard_by d (map call_of ys)
  heard-is none d e = refl
  heard-is (then {y = y} {ys = ys} m rest) d e =
      let number = number_is m ∙ ap (λ (v : D). (calls v y.call).number) e in
      let cut = cut-is m ∙ ap (λ (v : D). (calls v y.call).cut) e in
      let held = held-is m ∙ ap (λ (v : D). (calls v y.call).detector) e in
      ap (λ (n : ℕ). record { call = y.call; number = n; cut = cut_read y } ∷ map heard_from ys) number
      ∙ ap (λ (k : Option Timestamp). record { call = y.call; number = (calls d y.call).number; cut = k } ∷ map heard_from ys) cut
      ∙ ap (λ (hs : List Heard). record { call = y.call; number = (calls d y.call).number; cut = (calls d y.call).cut } ∷ hs) (heard-is rest (calls d y.call).detector held)

  -- a call, before the calls after it without their refused ones
  before : {s : List ℕ} {y : StationCall} {zs : List StationCall} → Made l calls s y → MadeFrom l calls y.state zs → (b : Bool) → eqb y.number 0 ≡ b
      → MadeFrom l calls s (cond (not b) zs (y ∷ zs))
  before m rest true e = then m rest
  before {zs = zs} m rest false e = subst (λ (w : List ℕ). MadeFrom l calls w zs) (words-stay m e) rest

  pub left_out : {s : List ℕ} {ys : List StationCall} → MadeFrom l calls s ys → MadeFrom l calls s (leave_out was_refused ys)
  left_out none = none
  left_out (then {y = y} m rest) = before m (left_out rest) (eqb y.number 0) refl

  -- accepted calls alone can bring nothing else
  abbrev Accepted : List StationCall → Type 0
  Accepted ys = All (λ (y : StationCall). eqb y.number 0 ≡ true) ys

  same_head : {A : Type 0} {x y : A} {xs ys : List A} → x ∷ xs ≡ y ∷ ys → (x ≡ y) × (xs ≡ ys)
  same_head {x = x} {xs = xs} e = (ap (λ zs. head-or x zs) e, ap tail_of e)
    where
      head-or : {A : Type 0} → A → List A → A
      head-or a [] = a
      head-or a (z ∷ zs) = z

      tail_of : {A : Type 0} → List A → List A
      tail_of [] = []
      tail_of (z ∷ zs) = zs

  no-cons : {A : Type 0} (x : A) (xs : List A) → x ∷ xs ≡ [] → ⊥
  no-cons x xs e = subst is-cons e tt
    where
      is-cons : {A : Type 0} → List A → Type 0
      is-cons [] = ⊥
      is-cons (z ∷ zs) = Unit {0}

  same-shown : {s t : List ℕ} {y z : StationCall} → Made l calls s y → Made l calls t z → l.held_by t ≡ l.held_by s → z.call ≡ y.call → eqb y.number 0 ≡ true → z ≡ y
  same-shown {s = s} {t = t} {y = y} {z = z} m n held called e =
      let there : calls (l.held_by t) z.call ≡ calls (l.held_by s) y.call = rw (held, called) in
      let number : z.number ≡ y.number = number_is n ∙ ap (λ (b : Brought D). b.number) there ∙ sym (number_is m) in
      let zero : eqb z.number 0 ≡ true = rw number e in
      let moved : shown z.call (calls (l.held_by t) z.call) ≡ shown y.call (calls (l.held_by s) y.call) = rw (there, called) in
      shown-is n zero ∙ moved ∙ sym (shown-is m e)

  only-so-from : {s t : List ℕ} {ys zs : List StationCall} → MadeFrom l calls s ys → MadeFrom l calls t zs → l.held_by t ≡ l.held_by s → Accepted ys
      → map call_of zs ≡ map call_of ys → zs ≡ ys
  only-so-from none none held acc e = refl
  only-so-from none (then n rest) held acc e = absurd (no-cons _ _ e)
  only-so-from (then m rest) none held acc e = absurd (no-cons _ _ (sym e))
  only-so-from {s = s} {t = t} (then {y = y} {ys = ys} m rest) (then {y = z} {ys = zs} n more) held acc e =
      let h = same_head e in
      let same : z ≡ y = same-shown m n held h.0 acc.0 in
      let there : calls (l.held_by t) z.call ≡ calls (l.held_by s) y.call = rw (held, h.0) in
      let after : l.held_by z.state ≡ l.held_by y.state = held-is n ∙ ap (λ (b : Brought D). b.detector) there ∙ sym (held-is m) in
      ap (λ (v : StationCall). v ∷ zs) same ∙ ap (λ (vs : List StationCall). y ∷ vs) (only-so-from rest more after acc.1 h.1)

  accepted-left : (ys : List StationCall) → Accepted (leave_out was_refused ys)
  accepted-left [] = tt
  accepted-left (y ∷ ys) = kept y (leave_out was_refused ys) (eqb y.number 0) refl (accepted-left ys)
    where
      kept : (y : StationCall) (zs : List StationCall) (b : Bool) → eqb y.number 0 ≡ b → Accepted zs → Accepted (cond (not b) zs (y ∷ zs))
      kept y zs true e a = (e, a)
      kept y zs false e a = a

  pub only_so : {s : List ℕ} {ys : List StationCall} → MadeFrom l calls s ys → (zs : List StationCall) → MadeFrom l calls s zs
      → map call_of zs ≡ map call_of (leave_out was_refused ys) → zs ≡ leave_out was_refused ys
  only_so {ys = ys} made zs alone e = only-so-from (left_out made) alone refl (accepted-left ys) e

  -- what holds of all that the definition gives holds of all that the station saw
  pub each-is : {s : List ℕ} {ys : List StationCall} → MadeFrom l calls s ys → (d : D) → l.held_by s ≡ d
      → All (λ (h : Heard). h.number ≡ own_number h.call) (heard_by d (map call_of ys)) → All (λ (h : Heard). h.number < 15) (heard_by d (map call_of ys))
      → EachCall l calls s ys
  each-is {ys = ys} made d e numbers below =
      let heard = heard-is made d e in
      record {
        numbers = all-mapped (λ (h : Heard). h.number ≡ own_number h.call) ys (rw heard numbers);
        never-bad = all-mapped (λ (h : Heard). h.number < 15) ys (rw heard below);
        left_out = left_out made;
        only_so = only_so made;
      }
