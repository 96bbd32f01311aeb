-- The word of a filter's mode is 0 or 1.
use Prim.Native.Nat.{◌≤◌}
use native.Mathlib.Omega.{arith}
use Rattle.filter.specs.declared.FilterMode.{FilterMode}
use Rattle.filter.specs.declared.FilterMode.TheVariants.{Suppress, Merge}
use Rattle.content_words.specs.Options.{mode_word}

pub mode_le : (m : FilterMode) → mode_word m ≤ 1
mode_le Merge = omega arith
mode_le Suppress = omega arith
