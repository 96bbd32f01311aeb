-- Small instances of `dilated`, computed.
use mathlib.Core.Path.{◌≡◌, refl}
use mathlib.Core.List.{List, [], ◌∷◌}
use Prim.Native.Nat.{ℕ}
use Rattle.laws.specs.Lists.{tabulate, max_in, max_from}
use Rattle.dilate.specs.Dilate.{around, dilated}

-- 4 columns, 3 rows
frame : List ℕ
frame =
    0 ∷ 0 ∷ 0 ∷ 0 ∷
    0 ∷ 0 ∷ 0 ∷ 7 ∷
    9 ∷ 0 ∷ 0 ∷ 0 ∷ []

by-3 : dilated frame 4 3 3 ≡ 0 ∷ 0 ∷ 7 ∷ 7 ∷ 9 ∷ 9 ∷ 7 ∷ 7 ∷ 9 ∷ 9 ∷ 7 ∷ 7 ∷ []
unfolding dilated around tabulate max_in max_from frame
by-3 = refl

-- an even k reaches as far as the next odd one
by_2 : dilated frame 4 3 2 ≡ dilated frame 4 3 3
unfolding dilated around tabulate max_in max_from frame
by_2 = refl

-- a window larger than the frame, and one of a single place
by-99 : dilated frame 4 3 99 ≡ 9 ∷ 9 ∷ 9 ∷ 9 ∷ 9 ∷ 9 ∷ 9 ∷ 9 ∷ 9 ∷ 9 ∷ 9 ∷ 9 ∷ []
unfolding dilated around tabulate max_in max_from frame
by-99 = refl

by-1 : dilated frame 4 3 1 ≡ frame
unfolding dilated around tabulate max_in max_from frame
by-1 = refl
