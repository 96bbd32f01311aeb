-- Settings by numbers, as a C program passes them (RULES 15.5).
use Rattle.std.specs.Prelude.{Bool, not, ℕ, eqb, ltb, Option}
use Rattle.std.specs.Bool.{then_some}
use Rattle.filter.specs.declared.FilterMode.{FilterMode}
use Rattle.content_words.specs.Options.{mode_of}

-- a flag follows C: 0 is off, any other number is on
abbrev pub flag_set : ℕ → Bool
flag_set n = not (eqb n 0)

-- the filter mode of a number: 0 is Merge, 1 Suppress
abbrev pub mode_set : ℕ → FilterMode
mode_set n = mode_of n

-- a number that does not name a mode: any but 0 and 1
abbrev pub no_mode : ℕ → Bool
no_mode n = ltb 1 n

-- k, set to this number or not set
abbrev pub kernel_by : Bool → ℕ → Option ℕ
kernel_by set k = then_some set k

-- k by two numbers: where the first is on, k is set to the second; otherwise it goes by the frame's size, and the second is ignored
abbrev pub kernel_set : (has k : ℕ) → Option ℕ
kernel_set has k = kernel_by (flag_set has) k
