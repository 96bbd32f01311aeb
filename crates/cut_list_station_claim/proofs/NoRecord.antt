-- What is not a record is refused by 15, whatever the call.
use mathlib.Core.Path.{◌≡◌, ◌∙◌}
use mathlib.Core.Bool.{true, false}
use mathlib.Core.List.{List}
use Prim.Native.Nat.{ℕ}
use lib.IntN.{ℤ}
use Rattle.cut_list.specs.Record.{Held, is_bad, list_number}
use Rattle.cut_list.specs.Change.{add_number, added, remove_number, removed, emptied}
use Rattle.cut_list.specs.Find.{nearest_in, span_in, clip_in}
use Rattle.cut_list_claim.specs.Run.{Operation, add, remove, empty, nearest, span, clip, operated}
use Rattle.cut_list_station.specs.Words.{is_list}
use Rattle.cut_list_station.proofs.Laws.{no-record-bad}
use Rattle.cut_list_station_claim.specs.Run.{ListCall, ListCallMade}
use Rattle.cut_list_station_claim.proofs.Theorem.{number_is}

bad-15 : (h : Held) (o : Operation) → is_bad h ≡ true → (operated h o).number ≡ 15
unfolding added add_number removed remove_number emptied nearest_in span_in clip_in list_number
bad-15 h (add t) e = rw e
bad-15 h (remove t) e = rw e
bad-15 h empty e = rw e
bad-15 h (nearest t) e = rw e
bad-15 h (span a b) e = rw e
bad-15 h (clip t) e = rw e

pub no-record-15 : (s : List ℕ) (m : List ℤ) (y : ListCall) → is_list s ≡ false → ListCallMade s m y → y.number ≡ 15
no-record-15 s m y e made = number_is made ∙ bad-15 _ y.operation (no-record-bad s m e)
