-- The text of a light plan (RULES 18.1, 18.2): rows `from,to,threshold`, whole numbers from 0 to 255 without leading zeros, a line feed after each row.
use Rattle.std.specs.Prelude.{Bool, false, cond, List, [], ◌∷◌, ◌++◌, ℕ, eqb, leb, length, Option, None, Some}
use Rattle.std.specs.Bool.{then_some}
use Rattle.decimal.specs.Parts.{parted}
use Rattle.decimal.specs.Reading.{number_read}
use Rattle.decimal.specs.Writing.{decimal}
use Rattle.light_plan.specs.declared.Row.{Row}
use Rattle.light_plan.specs.declared.Plan.{Plan}
use Rattle.light_plan.specs.Plan.{plan_of}
use Rattle.light_plan.specs.Rows.{row, rows_refusal}

-- a `0` before another byte
abbrev pub leading_zero : List ℕ → Bool
leading_zero [] = false
leading_zero (b ∷ []) = false
leading_zero (b ∷ c ∷ bs) = eqb b 48

-- what a field says: a number of at most 255 without a leading zero
unfoldable pub field_read : List ℕ → Option ℕ
field_read field = cond (leading_zero field) None (number_read 255 field)

-- the row of three numbers, where each is there
abbrev pub row_if : (from to threshold : Option ℕ) → Option Row
row_if (Some from) (Some to) (Some threshold) = Some (row from to threshold)
row_if (Some from) (Some to) None = None
row_if (Some from) None threshold = None
row_if None to threshold = None

-- what the fields of a row say: three numbers, and no field more
abbrev pub row_of_fields : List (List ℕ) → Option Row
row_of_fields [] = None
row_of_fields (f ∷ []) = None
row_of_fields (f ∷ g ∷ []) = None
row_of_fields (f ∷ g ∷ h ∷ []) = row_if (field_read f) (field_read g) (field_read h)
row_of_fields (f ∷ g ∷ h ∷ i ∷ fields) = None

-- what a row says, without its line feed: commas separate its fields
unfoldable pub row_read : List ℕ → Option Row
row_read line = row_of_fields (parted 44 line)

-- a row before others, where each is there
abbrev pub row_before : Option Row → Option (List Row) → Option (List Row)
row_before (Some r) (Some rows) = Some (r ∷ rows)
row_before (Some r) None = None
row_before None rows = None

-- the rows of a text's parts between line feeds: nothing stands after the last line feed, and the empty text has no rows
unfoldable pub rows_of_parts : List (List ℕ) → Option (List Row)
rows_of_parts [] = None
rows_of_parts (part ∷ []) = cond (eqb (length part) 0) (Some []) None
rows_of_parts (part ∷ next ∷ parts) = row_before (row_read part) (rows_of_parts (next ∷ parts))

-- the rows that a text says, or none where one of them has another shape (RULES 18.1)
unfoldable pub rows_read : List ℕ → Option (List Row)
rows_read text = rows_of_parts (parted 10 text)

-- 20, 21 or 22 by which rows that were read are refused, or 0; 20 where they were not
abbrev pub refusal_of : Option (List Row) → ℕ
refusal_of None = 20
refusal_of (Some rows) = rows_refusal (length rows) rows

-- 20, 21 or 22 by which a text is refused, or 0 (RULES 18.3)
abbrev pub text_refusal : List ℕ → ℕ
text_refusal text = refusal_of (rows_read text)

-- the rows that were read, of which there are none where a row had another shape
abbrev pub or_no_rows : Option (List Row) → List Row
or_no_rows None = []
or_no_rows (Some rows) = rows

-- the rows of a text
abbrev pub rows_in : List ℕ → List Row
rows_in text = or_no_rows (rows_read text)

-- the plan of the rows that were read: none where they were not, or where there are more than 16 (RULES 18.3)
abbrev pub plan_if : Option (List Row) → Option Plan
plan_if None = None
plan_if (Some rows) = then_some (leb (length rows) 16) (plan_of rows)

-- the plan that the rows of a text make; whether it is refused is not looked at
abbrev pub plan_read : List ℕ → Option Plan
plan_read text = plan_if (rows_read text)

-- the text of a row, with its line feed (RULES 18.7)
unfoldable pub row_text : Row → List ℕ
row_text r = decimal r.from ++ (44 ∷ (decimal r.to ++ (44 ∷ (decimal r.threshold ++ (10 ∷ [])))))

-- the text of rows (RULES 18.7)
unfoldable pub rows_text : List Row → List ℕ
rows_text [] = []
rows_text (r ∷ rows) = row_text r ++ rows_text rows
