-- How the input is cut into chunks does not change the output.
use mathlib.Core.Path.{◌≡◌, refl, sym, ap, ◌∙◌}
use mathlib.Core.Bool.{Bool, true, false, cond}
use mathlib.Core.List.{List, [], ◌∷◌, ◌++◌, append_assoc, append-nil, flatten}
use Prim.Native.Nat.{ℕ}
use lib.Dec.{eqb}
use native.Mathlib.Omega.{arith}
use lib.ListN.{length, take, length-take}
use borrow.Author.Tests.{ne_eqb}
use Rattle.frame_call.specs.Call.{Outcome}
use Rattle.decimal.specs.Parts.{parted, with_first}
use Rattle.session.specs.Output.{Place, start, line_call, after, line_text, ended, lines, answers, header, output}
use Rattle.session.specs.Feeding.{State, next, text_of, fed, fed_text, last_text, chunks_text, fresh}
use Rattle.session.proofs.LongLines.{call-held, after-held, hold-held}
use Rattle.session.proofs.Chunks.{chunks-text}
use Rattle.content.specs.State.{Answer}

-- the bytes of a line before the first of these parts
joined : List ℕ → List (List ℕ) → List (List ℕ)
joined line [] = line ∷ []
joined line (part ∷ parts) = (line ++ part) ∷ parts

joined-first : (line : List ℕ) (b : ℕ) (parts : List (List ℕ)) → joined line (with_first b parts) ≡ joined (line ++ (b ∷ [])) parts
unfolding joined
joined-first line b [] = refl
joined-first line b (part ∷ parts) = ap (λ (t : List ℕ). t ∷ parts) (sym (append_assoc line (b ∷ []) part))

-- a state that has read these bytes of a line
abbrev reading : Place → List ℕ → State
reading p line = record { place = p; held = take 8193 line }

-- what is still to be answered, when these bytes of a line were read and these follow
abbrev rest : Place → List ℕ → List ℕ → List ℕ
rest p line bs = answers p (ended (joined line (parted 10 bs)))

-- a text has a first part
pub data Some : List (List ℕ) → Type 0 where
  some-parts : (part : List ℕ) (parts : List (List ℕ)) → Some (part ∷ parts)

some_first : (b : ℕ) (parts : List (List ℕ)) → Some (with_first b parts)
some_first b [] = some-parts (b ∷ []) []
some_first b (part ∷ parts) = some-parts (b ∷ part) parts

some_byte : (b : ℕ) (parts : List (List ℕ)) (t : Bool) → Some (cond t ([] ∷ parts) (with_first b parts))
some_byte b parts true = some-parts [] parts
some_byte b parts false = some_first b parts

pub has_part : (bs : List ℕ) → Some (parted 10 bs)
unfolding parted
has_part [] = some-parts [] []
has_part (b ∷ bs) = some_byte b (parted 10 bs) (eqb b 10)

-- a line that a line feed ends
ended-line : (line : List ℕ) (parts : List (List ℕ)) → Some parts → ended (joined line ([] ∷ parts)) ≡ line ∷ ended (joined [] parts)
unfolding ended joined
ended-line line parts (some-parts part more) = rw (append-nil line)

-- at the end of the input, when something of a line was read
last_line : (p : Place) (held : List ℕ) (answer : Answer) → (length held ≡ 0 → ⊥) → (line_call p held).answer ≡ answer
    → last_text (record { place = p; held = held }) ≡ line_text p.number answer ++ []
unfolding last_text
last_line p held answer h e = rw (ne_eqb (length held) 0 h, e) (sym (append-nil (line_text p.number answer)))

at-end : (p : Place) (line : List ℕ) → last_text (reading p line) ≡ rest p line []
unfolding last_text answers ended joined parted
at-end p [] = refl
at-end p (b ∷ line) =
    rw (append-nil line)
    (last_line p (take 8193 (b ∷ line)) (line_call p (b ∷ line)).answer (λ e. omega (arith, e, length-take 8193 (b ∷ line)))
    (ap (λ (o : Outcome Answer). o.answer) (call-held p (b ∷ line))))

-- a byte: a line feed, or another
step : (p : Place) (line : List ℕ) (b : ℕ) (bs : List ℕ) (t : Bool) → eqb b 10 ≡ t
    → ((q : Place) (l : List ℕ) → fed_text (reading q l) bs ++ last_text (fed (reading q l) bs) ≡ rest q l bs)
    → fed_text (reading p line) (b ∷ bs) ++ last_text (fed (reading p line) (b ∷ bs)) ≡ rest p line (b ∷ bs)
unfolding fed fed_text text_of next parted answers
step p line b bs true e ih =
    rw (e, ended-line line (parted 10 bs) (has_part bs), call-held p line, after-held p line)
    (append_assoc (line_text p.number (line_call p line).answer) _ _ ∙ ap (λ (t : List ℕ). line_text p.number (line_call p line).answer ++ t) (ih (after p line) []))
step p line b bs false e ih = rw (e, hold-held line b, joined-first line b (parted 10 bs)) (ih p (line ++ (b ∷ [])))

-- whatever was read of a line, the bytes that follow bring the answers of the whole lines
whole : (bs : List ℕ) (p : Place) (line : List ℕ) → fed_text (reading p line) bs ++ last_text (fed (reading p line) bs) ≡ rest p line bs
unfolding fed fed_text
whole [] p line = at-end p line
whole (b ∷ bs) p line = step p line b bs (eqb b 10) refl (whole bs)

no_line : (parts : List (List ℕ)) → Some parts → joined [] parts ≡ parts
unfolding joined
no_line parts (some-parts part more) = refl

-- the whole input as one chunk, and its end
pub all_lines : (input : List ℕ) → fed_text fresh input ++ last_text (fed fresh input) ≡ answers start (lines input)
all_lines input = whole input start [] ∙ ap (λ (parts : List (List ℕ)). answers start (ended parts)) (no_line (parted 10 input) (has_part input))

-- The input in chunks of any sizes brings the output that the whole input has.
pub chunks-output : (chunks : List (List ℕ)) → header ++ chunks_text fresh chunks ≡ output (flatten chunks)
unfolding output
chunks-output chunks = ap (λ (t : List ℕ). header ++ t) (chunks-text fresh chunks ∙ all_lines (flatten chunks))
