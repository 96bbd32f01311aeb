-- The session fed chunk by chunk (RULES 11.7): what is kept between two chunks of the input, and what each chunk brings.
use Rattle.std.specs.Prelude.{cond, List, [], ◌∷◌, ◌++◌, ℕ, suc, ◌+◌, min, eqb, ltb, length}
use Rattle.session.specs.Output.{Place, start, line_call, after, line_text}

-- The place of the current line, and its bytes so far: of a line that is too long only the first 8,193 are held. More than 8,192
-- bytes give 16 (RULES 11.3), so 8,192 bytes and one more tell that a line is too long.
pub record State : Type 0 where
  pub place : Place
  pub held : List ℕ

abbrev pub hold : List ℕ → ℕ → List ℕ
hold bytes b = cond (ltb (length bytes) 8193) (bytes ++ (b ∷ [])) bytes

-- the state after a byte, and the text that the byte brings: a line feed ends the line (RULES 11.1)
unfoldable pub next : State → ℕ → State
next s b =
    record {
      place = cond (eqb b 10) (after s.place s.held) s.place;
      held = cond (eqb b 10) [] (hold s.held b);
    }

unfoldable pub text_of : State → ℕ → List ℕ
text_of s b = cond (eqb b 10) (line_text s.place.number (line_call s.place s.held).answer) []

-- the state after a chunk, and its text
unfoldable pub fed : State → List ℕ → State
fed s [] = s
fed s (b ∷ bs) = fed (next s b) bs

unfoldable pub fed_text : State → List ℕ → List ℕ
fed_text s [] = []
fed_text s (b ∷ bs) = text_of s b ++ fed_text (next s b) bs

-- the text at the end of the input: that of the line that no line feed ended, if there is one (RULES 11.1)
unfoldable pub last_text : State → List ℕ
last_text s = cond (eqb (length s.held) 0) [] (line_text s.place.number (line_call s.place s.held).answer)

-- the state before the first byte
abbrev pub fresh : State
fresh = record { place = start; held = [] }

-- the end of the chunk of `size` bytes that starts at place a of n bytes: their end where that comes first; of a size of 0, their end
unfoldable pub chunk_end : (a size n : ℕ) → ℕ
chunk_end a size n = cond (eqb size 0) n (min n (a + size))

-- the text of chunks one after the other, and then of the end of the input (RULES 11.7)
unfoldable pub chunks_text : State → List (List ℕ) → List ℕ
chunks_text s [] = last_text s
chunks_text s (chunk ∷ chunks) = fed_text s chunk ++ chunks_text (fed s chunk) chunks

-- the bytes held of a line when bytes without a line feed follow, and how many bytes stand before the first line feed
unfoldable pub held_after : List ℕ → List ℕ → List ℕ
held_after held [] = held
held_after held (b ∷ bs) = held_after (hold held b) bs

unfoldable pub before_feed : List ℕ → ℕ
before_feed [] = 0
before_feed (b ∷ bs) = cond (eqb b 10) 0 (suc (before_feed bs))
