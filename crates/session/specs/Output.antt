-- The session program (RULES 11): from the bytes of the whole input to the bytes of the whole output.
use Rattle.std.specs.Prelude.{cond, List, [], ◌∷◌, ◌++◌, ℕ, suc, ltb, pos, replicate, None, Option, Some}
use Rattle.content.specs.declared.Detector.{Detector}
use Rattle.content.specs.Options.{defaults}
use Rattle.content.specs.State.{Answer, fresh, refused_answer}
use Rattle.frame_call.specs.Call.{Outcome, luma, memory}
use Rattle.content.specs.Step.{called}
use Rattle.decimal.specs.Parts.{parted}
use Rattle.decimal.specs.Writing.{decimal, stamp_text}
use Rattle.frame_line.specs.declared.FrameLine.{FrameLine}
use Rattle.frame_line.specs.Line.{fields, line_of, luma_of}
use Rattle.timestamp.specs.declared.Timestamp.{Timestamp}

-- The parts between line feeds (RULES 11.1): where nothing follows the last line feed there is no further line, so an empty input has none.
unfoldable pub ended : List (List ℕ) → List (List ℕ)
ended [] = []
ended ([] ∷ []) = []
ended ((b ∷ bs) ∷ []) = (b ∷ bs) ∷ []
ended (part ∷ next ∷ parts) = part ∷ ended (next ∷ parts)

-- the lines of an input (RULES 11.1)
abbrev pub lines : List ℕ → List (List ℕ)
lines input = ended (parted 10 input)

-- where the session stands before a line: the detector, its store, and the line's number
pub record Place : Type 0 where
  pub detector : Detector
  pub store : List ℕ
  pub number : ℕ

-- A content detector at default settings (RULES 11.5). The store is lent as zeros; its content cannot show, since the first frame of a
-- stretch is not scored.
abbrev pub start : Place
start = record { detector = fresh defaults; store = replicate 4096 0; number = 0 }

-- the luma call of a frame with these values, whose stride is its width, or 16 where there is no frame (RULES 11.3, 11.5)
abbrev pub call_of : Place → (values : List ℕ) → Option FrameLine → Outcome Answer
call_of p values None = record { answer = refused_answer p.detector 16; store = p.store }
call_of p values (Some f) =
    called p.detector (luma values f.width f.height f.width f.stamp (memory p.store (replicate 9216 0) (replicate 1024 (pos 0))))

-- What a line brings: the luma call of its frame, whose stride is its width, or 16 (RULES 11.3, 11.5). 9,216 bytes of scratch and 1,024
-- magnitudes are enough for every frame of at most 1,024 pixels whose sides the call takes.
unfoldable pub line_call : Place → List ℕ → Outcome Answer
line_call p line = call_of p (luma_of (fields line)) (line_of line)

-- Each line's number is one more than that of the line before (RULES 11.6). That the last number of 64 bits stays is a decision
-- (docs/DECISIONS.md); no input that a machine holds meets it (proofs/Numbers.antt).
abbrev pub next_number : ℕ → ℕ
next_number n = cond (ltb n 18446744073709551615) (suc n) n

-- where the session stands after a line; a line that is refused leaves the detector as it was (RULES 11.5)
unfoldable pub after : Place → List ℕ → Place
after p line =
    record { detector = (line_call p line).answer.detector; store = (line_call p line).store; number = next_number p.number }

-- the cut, or `-` where there is none (RULES 11.6)
abbrev pub cut_text : Option Timestamp → List ℕ
cut_text None = 45 ∷ []
cut_text (Some t) = stamp_text t.micros

-- a line of the output (RULES 11.6): number, answer, cut or `-`, and a line feed
unfoldable pub line_text : ℕ → Answer → List ℕ
line_text number answer =
    decimal number ++ (44 ∷ (decimal answer.number ++ (44 ∷ (cut_text answer.cut ++ (10 ∷ [])))))

-- the text of these lines, from this place on, one after the other (RULES 11.6)
unfoldable pub answers : Place → List (List ℕ) → List ℕ
answers p [] = []
answers p (line ∷ lines) = line_text p.number (line_call p line).answer ++ answers (after p line) lines

-- `frame,answer,cut` and a line feed (RULES 11.6)
abbrev pub header : List ℕ
header = 102 ∷ 114 ∷ 97 ∷ 109 ∷ 101 ∷ 44 ∷ 97 ∷ 110 ∷ 115 ∷ 119 ∷ 101 ∷ 114 ∷ 44 ∷ 99 ∷ 117 ∷ 116 ∷ 10 ∷ []

-- the whole output for the whole input: the header, then a line for each line (RULES 11.6)
unfoldable pub output : List ℕ → List ℕ
output input = header ++ answers start (lines input)
