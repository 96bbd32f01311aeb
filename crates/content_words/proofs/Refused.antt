-- What is not a record is refused: words of another version, with a tag or a flag over 1, or with a field of 32 bits that has more.
use mathlib.Core.Path.{◌≡◌, refl}
use mathlib.Core.Bool.{true, false}
use mathlib.Core.List.{List}
use Prim.Native.Nat.{ℕ}
use lib.Ieee.{of_int, of_bits, eq, lt, le, is_nan, neg}
use Rattle.score.specs.Settings.{settings_refusal, too_heavy, any_too_heavy, all_zero}
use Rattle.content.specs.State.{bad_state}
use Rattle.content_words.specs.Record.{is_content, foreign, content_of}

pub foreign-bad : bad_state foreign ≡ true
unfolding foreign bad_state settings_refusal too_heavy any_too_heavy all_zero of_int of_bits eq lt le is_nan neg
foreign-bad = refl

pub no-record-bad : (w : List ℕ) → is_content w ≡ false → bad_state (content_of w) ≡ true
unfolding content_of
no-record-bad w e = rw e foreign-bad
