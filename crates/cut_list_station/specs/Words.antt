-- The record of a list in three words: its version, its minimum distance, its count (RULES 17.14).
use Rattle.std.specs.Prelude.{Bool, cond, List, [], ◌∷◌, ℕ, ◌+◌, eqb}
use Rattle.words.specs.Stream.{word_at}
use Rattle.cut_list.specs.declared.CutList.{CutList}
use Rattle.cut_list.specs.Record.{places, cut_list}

-- the version of the record, which is the letters MWLIST01
abbrev pub list_version : ℕ
list_version = 0x4d574c4953543031

-- the words of a list's record
unfoldable pub list_words : CutList → List ℕ
list_words l = list_version ∷ l.min_duration ∷ l.count ∷ []

-- whether words are a record: the version is this one; the minimum and the count are any 64 bits
unfoldable pub is_list : List ℕ → Bool
is_list w = eqb (word_at w 0) list_version

-- what is read where the words are not a record: a list with one stamp more than there are places, so that every operation refuses it by 15
unfoldable pub foreign : CutList
foreign = cut_list 0 (places + 1)

-- the record that the words hold
unfoldable pub list_of : List ℕ → CutList
list_of w = cond (is_list w) (cut_list (word_at w 1) (word_at w 2)) foreign
