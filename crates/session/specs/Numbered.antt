-- A line's number as its place among the lines, with no last number (RULES 11.7).
use Rattle.std.specs.Prelude.{List, [], ◌∷◌, ◌++◌, ℕ, suc}
use Rattle.session.specs.Output.{Place, line_call, after, line_text}

-- the answers of lines of which the first has the number n: the place brings the detector and the store alone
unfoldable pub answers_from : ℕ → Place → List (List ℕ) → List ℕ
answers_from n p [] = []
answers_from n p (line ∷ lines) = line_text n (line_call p line).answer ++ answers_from (suc n) (after p line) lines
