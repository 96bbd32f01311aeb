-- The texts of light plans that a record of 16 bytes describes (compare/README.md, "Replays"): r[k] is byte k of the record.
use Rattle.std.specs.Prelude.{ℕ, ◌+◌, ◌*◌, ◌/◌, ◌%◌, cond, List, [], ◌∷◌, ◌==◌, nat_le, ltb, length, take, set, slice_index}
use Rattle.std.specs.List.{insert, remove}
use Rattle.laws.specs.Lists.{tabulate}
use Rattle.light_plan.specs.declared.Row.{Row}
use Rattle.light_plan.specs.Rows.{row}

-- how many rows a whole plan has: 1 to 16
abbrev pub count_of : List ℕ → ℕ
count_of r = slice_index r 0 % 16 + 1

-- row i of n: 256 medians are split evenly, and the threshold is (b + 17 × i) % 256
abbrev pub row_of : (n b i : ℕ) → Row
row_of n b i = row (256 * i / n % 256) ((256 * (i + 1) / n + 255) % 256) ((b + 17 * i) % 256)

-- sixteen rows, of which the first n are those of a plan that has each median once; they are turned round by r[1]
unfoldable pub turned_rows : List ℕ → List Row
turned_rows r = tabulate 16 (λ j. row_of (count_of r) (slice_index r 2) ((j + slice_index r 1) % count_of r))

-- how many of them stand in the text: where r[3] % 8 is 0 the last is left out
unfoldable pub kept_of : List ℕ → ℕ
kept_of r = cond (slice_index r 3 % 8 == 0) (slice_index r 0 % 16) (count_of r)

-- what is put into a text: the digits, those to 5 twice, four commas, four line feeds, then blank, minus, plus, stop, carriage return, 0, a letter
-- and 255
unfoldable pub alphabet : List ℕ
alphabet =
    48 ∷ 49 ∷ 50 ∷ 51 ∷ 52 ∷ 53 ∷ 54 ∷ 55 ∷ 56 ∷ 57 ∷ 48 ∷ 49 ∷ 50 ∷ 51 ∷ 52 ∷ 53
    ∷ 44 ∷ 44 ∷ 44 ∷ 44 ∷ 10 ∷ 10 ∷ 10 ∷ 10 ∷ 32 ∷ 45 ∷ 43 ∷ 46 ∷ 13 ∷ 0 ∷ 97 ∷ 255 ∷ []

-- a text that is changed at a place: the byte is replaced for a kind of 0 to 3, one is put in for 4 and 5, it is left out for 6, and for 7 the text
-- ends there. Nothing is replaced or left out at its end
unfoldable pub changed_at : List ℕ → (kind place byte : ℕ) → List ℕ
changed_at text kind place byte =
    cond (nat_le kind 3) (set text place byte)
    (cond (nat_le kind 5) (cond (ltb (length text) 256) (insert text place byte) text)
    (cond (kind == 6) (remove text place) (take place text)))
