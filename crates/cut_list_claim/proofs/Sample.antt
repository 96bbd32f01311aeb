-- An instance, computed: operations on a list of minimum 3, with refused ones among them, and what they leave.
use mathlib.Core.Path.{◌≡◌, refl}
use mathlib.Core.List.{List, [], ◌∷◌, map}
use lib.IntN.{pos, negsuc}
use lib.ListN.{replicate}
use Rattle.timestamp.specs.Stamps.{distance}
use Rattle.cut_list.specs.Record.{places, Held, held, new_list, stamps_of, follows, in_order, is_bad, list_number}
use Rattle.cut_list.specs.Change.{too_close, any_of, add_number, inserted, with_stamp, added, remove_number, without_stamp, removed}
use Rattle.cut_list.specs.Find.{nearest_in}
use Rattle.cut_list_claim.specs.Run.{Operation, add, remove, nearest, Operated, list_run, list_after}

new : Held
new = held (new_list 3) (replicate places (pos 7))

operations : List Operation
operations = add (pos 10) ∷ add (pos 12) ∷ add (pos 7) ∷ add (pos 7) ∷ remove (pos 8) ∷ add (negsuc 4) ∷ nearest (pos 1) ∷ remove (pos 7) ∷ add (pos 13) ∷ []

-- the second is closer than the minimum to the first, the fourth equals the third, the fifth is not in the list
numbers : map (λ (y : Operated). y.number) (list_run new operations) ≡ 0 ∷ 17 ∷ 0 ∷ 17 ∷ 19 ∷ 0 ∷ 0 ∷ 0 ∷ 0 ∷ []
unfolding new operations new_list distance follows in_order is_bad too_close any_of add_number inserted with_stamp added remove_number without_stamp removed list_number nearest_in
numbers = refl

stamps : stamps_of (list_after new operations) ≡ negsuc 4 ∷ pos 10 ∷ pos 13 ∷ []
unfolding new operations new_list distance follows in_order is_bad too_close any_of add_number inserted with_stamp added remove_number without_stamp removed list_number nearest_in
stamps = refl
