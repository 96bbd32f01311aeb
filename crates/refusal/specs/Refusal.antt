-- A call is refused by the first of its conditions that holds; its number is 0 where none does (RULES 10.2).
use Rattle.std.specs.Prelude.{Bool, cond, List, [], ◌∷◌, ℕ, Result, Ok, Err}
use Rattle.refusal.specs.declared.Refusal.{Refusal}
use Rattle.refusal.specs.declared.Refusal.TheVariants.{FrameTooLarge, StrideTooShort, DataTooShort, SaturationTooShort, ValueTooShort, WeightTooHeavy, NoWeight, BadKernel, NotANumber, NoWindow, WindowTooWide, StoreTooShort, ScratchTooShort, MagnitudesTooShort, BadState, NotAFrameLine, TooClose, ListFull, NotInList, NotAPlan, MedianTwice, MedianMissing}

-- the number of the first row whose condition holds, or 0: each row is a condition and its number, in the order in which they are tried
abbrev pub first_that : List (Bool × ℕ) → ℕ
first_that [] = 0
first_that (row ∷ rows) = cond row.0 row.1 (first_that rows)

-- the number of each refusal (RULES 10.1)
abbrev pub number_of : Refusal → ℕ
number_of FrameTooLarge = 1
number_of StrideTooShort = 2
number_of DataTooShort = 3
number_of SaturationTooShort = 4
number_of ValueTooShort = 5
number_of WeightTooHeavy = 6
number_of NoWeight = 7
number_of BadKernel = 8
number_of NotANumber = 9
number_of NoWindow = 10
number_of WindowTooWide = 11
number_of StoreTooShort = 12
number_of ScratchTooShort = 13
number_of MagnitudesTooShort = 14
number_of BadState = 15
number_of NotAFrameLine = 16
number_of TooClose = 17
number_of ListFull = 18
number_of NotInList = 19
number_of NotAPlan = 20
number_of MedianTwice = 21
number_of MedianMissing = 22

-- the number by which a check answers: 0 where it passes
abbrev pub number_in : {A : Type 0} → Result A Refusal → ℕ
number_in (Ok x) = 0
number_in (Err why) = number_of why
