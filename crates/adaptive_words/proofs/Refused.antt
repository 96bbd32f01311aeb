-- What is not a record is refused: words of another version, with a tag or a flag over 1, or with a field of 32 bits that has more.
use mathlib.Core.Path.{◌≡◌, refl}
use mathlib.Core.Bool.{true, false}
use mathlib.Core.List.{List}
use Prim.Native.Nat.{ℕ}
use lib.Ieee.{of_int, of_bits, eq, lt, le, is_nan, neg}
use Rattle.score.specs.Settings.{settings_refusal, too_heavy, any_too_heavy, all_zero}
use Rattle.adaptive.specs.Options.{options_refusal}
use Rattle.adaptive.specs.State.{bad_state}
use Rattle.adaptive_words.specs.Record.{is_adaptive, foreign, adaptive_of}

pub foreign-bad : bad_state foreign ≡ true
unfolding foreign bad_state options_refusal settings_refusal too_heavy any_too_heavy all_zero of_int of_bits eq lt le is_nan neg
foreign-bad = refl

pub no-record-bad : (w : List ℕ) → is_adaptive w ≡ false → bad_state (adaptive_of w) ≡ true
unfolding adaptive_of
no-record-bad w e = rw e foreign-bad
