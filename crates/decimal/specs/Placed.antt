-- What a writer of the output's text (RULES 11.6) promises of its memory.
use Rattle.std.specs.Prelude.{◌≡◌, List, ◌++◌, ℕ, ◌+◌, ◌≤◌, length, take, drop}
use Rattle.decimal.specs.declared.Writer.{Writer}

-- the memory with the text from place `at` on; all other bytes stay
unfoldable pub placed : List ℕ → ℕ → List ℕ → List ℕ
placed out at text = take at out ++ (text ++ drop (length text) (drop at out))

-- from the writer's place on there are n bytes of its memory
abbrev pub HasRoom : Writer → ℕ → Type 0
HasRoom w n = w.at + n ≤ length w.out.now

-- the writer w has put this text, and is now w': the text stands at the place, which is now the one after it; the memory is the same one,
-- and as long
pub record Wrote (w : Writer) (text : List ℕ) (w' : Writer) : Type 0 where
  pub memory : w'.out.now ≡ placed w.out.now w.at text
  pub place : w'.at ≡ w.at + length text
  pub size : length w'.out.now ≡ length w.out.now
  pub same : w'.out.ghost_name ≡ w.out.ghost_name
