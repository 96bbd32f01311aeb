-- The record of a list in words.
use mathlib.Core.Path.{◌≡◌, refl}
use mathlib.Core.Bool.{true, false}
use mathlib.Core.List.{List}
use Prim.Native.Nat.{ℕ}
use lib.IntN.{ℤ}
use lib.ListN.{length}
use Rattle.cut_list.specs.declared.CutList.{CutList}
use Rattle.cut_list.specs.Record.{held, is_bad}
use Rattle.cut_list_station.specs.Words.{list_words, is_list, foreign, list_of}

-- what is not a record is read as a bad list, whatever the memory
pub no-record-bad : (w : List ℕ) (m : List ℤ) → is_list w ≡ false → is_bad (held (list_of w) m) ≡ true
unfolding list_of foreign is_bad
no-record-bad w m e = rw e refl

-- how many words a record has
pub words_length : (l : CutList) → length (list_words l) ≡ 3
unfolding list_words
words_length l = refl

-- they read back
pub words_back : (l : CutList) → list_of (list_words l) ≡ l
unfolding list_of is_list list_words
words_back l = refl
