-- A text in parts: the lines of an input, which line feeds end (RULES 11.1), and the fields of a line, which commas separate (RULES 11.2).
use Rattle.std.specs.Prelude.{cond, List, [], ◌∷◌, ℕ, eqb}

-- the byte b before the first part
abbrev pub with_first : ℕ → List (List ℕ) → List (List ℕ)
with_first b [] = (b ∷ []) ∷ []
with_first b (part ∷ parts) = (b ∷ part) ∷ parts

-- the parts of a text between the bytes c: one part more than it has such bytes (RULES 11.1, 11.2)
unfoldable pub parted : ℕ → List ℕ → List (List ℕ)
parted c [] = [] ∷ []
parted c (b ∷ bs) = cond (eqb b c) ([] ∷ parted c bs) (with_first b (parted c bs))
