-- A line's call: the luma call of its frame, whatever scratch and magnitudes are lent, or 16.
use mathlib.Core.Path.{◌≡◌, refl, sym, ap, subst, ◌∙◌}
use Rattle.std.proofs.Common.{Option, Some, None}
use Rattle.std.specs.Prelude.{IfSome}
use mathlib.Core.Bool.{Bool, true, false, cond}
use mathlib.Core.List.{List, [], ◌∷◌}
use Prim.Native.Nat.{ℕ, ◌*◌, ◌≤◌}
use borrow.Author.Tests.{leb-true}
use lib.Dec.{eqb, leb}
use lib.IntN.{ℤ, pos}
use lib.ListN.{length, take, replicate, length-replicate}
use Rattle.laws.proofs.Bools.{and-true}
use Rattle.timestamp.specs.declared.Timestamp.{Timestamp}
use Rattle.content.specs.declared.Detector.{Detector}
use Rattle.content.specs.declared.Options.{Options}
use Rattle.content.specs.Options.{defaults, picture_options, options_refusal}
use Rattle.content.specs.State.{bad_state, refused_answer, cleared_answer, settled, fresh}
use Rattle.frame_call.specs.Call.{luma, memory}
use Rattle.frame_call.proofs.Returned.{lent_same}
use Rattle.content.specs.Step.{stepped, called}
use Rattle.decimal.specs.Reading.{is_up_to, is_stamp, number}
use Rattle.frame_line.specs.declared.FrameLine.{FrameLine}
use Rattle.frame_line.specs.Line.{is_frame_of, is_frame_line, fields, frame_of, line_of, luma_of}
use Rattle.session.specs.declared.Session.{Session}
use Rattle.session.specs.Output.{Place, line_call}
use Rattle.session.specs.Sessions.{place_of, frame_call_of}

-- a call, whatever scratch and magnitudes of these lengths it is lent
pub lent : (d : Detector) (plane : List ℕ) (w h stride : ℕ) (ts : Timestamp) (store scratch : List ℕ) (magnitudes : List ℤ) → length scratch ≡ 9216 → length magnitudes ≡ 1024
    → called d (luma plane w h stride ts (memory store scratch magnitudes)) ≡ called d (luma plane w h stride ts (memory store (replicate 9216 0) (replicate 1024 (pos 0))))
lent d plane w h stride ts store scratch magnitudes p q =
    lent_same d.stream (picture_options d.options) (bad_state d) (stepped d) (refused_answer d) (cleared_answer d) plane w h stride ts store scratch (replicate 9216 0) magnitudes (replicate 1024 (pos 0))
    (p ∙ sym (length-replicate {A = ℕ} 9216 0)) (q ∙ sym (length-replicate 1024 (pos 0)))

-- a settings call with the defaults gives their fresh detector, whether they are refused or not
same_cond : {A : Type 0} (t : Bool) (a : A) → cond t a a ≡ a
same_cond true a = refl
same_cond false a = refl

pub settled-defaults : (o : Options) → o ≡ defaults → (settled o).detector ≡ fresh defaults
unfolding settled
settled-defaults o e = rw e (ap fresh (same_cond (eqb (options_refusal defaults) 0) defaults))

-- a frame line's frame has at most 1,024 pixels
abbrev Small : Option FrameLine → Type 0
Small r = IfSome r (λ f. f.width * f.height ≤ 1024)

pixels-of : (parts : List (List ℕ)) → is_frame_of parts ≡ true → Small (frame_of parts)
unfolding is_frame_of frame_of
pixels-of [] h = tt
pixels-of (s ∷ []) h = tt
pixels-of (s ∷ w ∷ []) h = tt
pixels-of (s ∷ w ∷ v ∷ vs) h =
    let stamped = (and-true (is_stamp s) _ h).1 in
    let wide = (and-true (is_up_to 4294967295 w) _ stamped).1 in
    let high = (and-true (is_up_to 4294967295 v) _ wide).1 in
    leb-true (number w * number v) 1024 (and-true (leb (number w * number v) 1024) _ high).0

small-by : (line : List ℕ) (t : Bool) → is_frame_line line ≡ t → Small (line_of line)
unfolding line_of is_frame_line
small-by line true e = rw e (pixels-of (fields line) (and-true (leb (length line) 8192) (is_frame_of (fields line)) e).1)
small-by line false e = rw e tt

pub line-pixels : (line : List ℕ) (f : FrameLine) → Some f ≡ line_of line → f.width * f.height ≤ 1024
line-pixels line f e = subst Small (sym e) (small-by line (is_frame_line line) refl)

-- what a frame line brings, by the values read
pub line-accepted : (s : Session) (line : List ℕ) (f : FrameLine) → Some f ≡ line_of line → take (f.width * f.height) s.luma ≡ luma_of (fields line) → frame_call_of s f ≡ line_call (place_of s) line
unfolding frame_call_of line_call
line-accepted s line f e same = rw (same, ← e) refl

-- what another line brings
pub line_refused : (p : Place) (line : List ℕ) → None ≡ line_of line → line_call p line ≡ record { answer = refused_answer p.detector 16; store = p.store }
unfolding line_call
line_refused p line e = rw (← e) refl
