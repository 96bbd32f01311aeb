-- The printed table of marks (RULES 5.14): a header, then a row for each median from 0 to 255. Each ends with a line feed.
use Rattle.std.specs.Prelude.{List, [], ◌∷◌, ◌++◌, ℕ, zero, suc}
use Rattle.decimal.specs.Writing.{decimal}
use Rattle.canny_marks.specs.Marks.{low_mark, high_mark}

-- `median,low,high` and a line feed
abbrev pub table_header : List ℕ
table_header = 109 ∷ 101 ∷ 100 ∷ 105 ∷ 97 ∷ 110 ∷ 44 ∷ 108 ∷ 111 ∷ 119 ∷ 44 ∷ 104 ∷ 105 ∷ 103 ∷ 104 ∷ 10 ∷ []

-- a row: the median, its low and its high mark, in decimal and separated by commas, and a line feed
unfoldable pub row_text : ℕ → List ℕ
row_text m = decimal m ++ (44 ∷ (decimal (low_mark m) ++ (44 ∷ (decimal (high_mark m) ++ (10 ∷ [])))))

-- the rows of the first n medians, one after the other
unfoldable pub rows_text : ℕ → List ℕ
rows_text zero = []
rows_text (suc n) = rows_text n ++ row_text n

-- the whole text
unfoldable pub table_text : List ℕ
table_text = table_header ++ rows_text 256
