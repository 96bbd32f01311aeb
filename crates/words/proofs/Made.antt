-- A tag is 0 or 1, and what else makes a record's words read back to it.
use Rattle.std.proofs.Common.{None, Option, Some}
use mathlib.Core.Path.{◌≡◌, refl}
use mathlib.Core.Bool.{Bool, true, false, ◌||◌}
use Prim.Native.Nat.{ℕ, ◌≤◌}
use native.Mathlib.Nat.{mod-eq_of_lt}
use native.Mathlib.Omega.{arith}
use borrow.Author.Tests.{le-leb, lt-ltb}
use lib.Ieee.{Float}
use Rattle.score.specs.declared.Components.{Components}
use Rattle.timestamp.specs.declared.Timestamp.{Timestamp}
use Rattle.words.specs.Choices.{flag_word, flag_of, stamp_tag, kernel_tag, score_tag, components_tag, components_if}
use Rattle.stream.specs.Stream.{components_shown}

pub or-true : (b : Bool) → (b || true) ≡ true
or-true true = refl
or-true false = refl

pub components-back : (c : Option Components) → components_if (flag_of (components_tag c)) (components_shown c) ≡ c
components-back None = refl
components-back (Some x) = refl

pub flag_le : (b : Bool) → flag_word b ≤ 1
flag_le true = omega arith
flag_le false = omega arith

pub stamp_tag_le : (t : Option Timestamp) → stamp_tag t ≤ 1
stamp_tag_le None = omega arith
stamp_tag_le (Some x) = omega arith

pub score_tag_le : (s : Option Float) → score_tag s ≤ 1
score_tag_le None = omega arith
score_tag_le (Some x) = omega arith

pub kernel_tag_le : (k : Option ℕ) → kernel_tag k ≤ 1
kernel_tag_le None = omega arith
kernel_tag_le (Some x) = omega arith

pub components_tag_le : (c : Option Components) → components_tag c ≤ 1
components_tag_le None = omega arith
components_tag_le (Some x) = omega arith

-- what a proof wants that a record's words read back to it
pub ruleset reads = (flag_le, stamp_tag_le, score_tag_le, kernel_tag_le, components_tag_le, components-back, or-true, mod-eq_of_lt, le-leb, lt-ltb)
