-- What holds of all elements of a list.
use Prim.Native.Nat.{ℕ, zero, suc, ◌<◌}
use native.Mathlib.Omega.{arith}
use mathlib.Core.Path.{◌≡◌, refl}
use mathlib.Core.Bool.{Bool, false}
use mathlib.Core.List.{List, [], ◌∷◌}
use lib.ListN.{length, get_or}
use Rattle.laws.specs.Lists.{All, leave_out}

pub all_map : {A : Type 0} {P Q : A → Type 0} → ((x : A) → P x → Q x) → (xs : List A) → All P xs → All Q xs
all_map f [] h = tt
all_map f (x ∷ xs) h = (f x h.0, all_map f xs h.1)

pub all-at : {A : Type 0} (P : A → Type 0) (d : A) (xs : List A) (i : ℕ) → i < length xs → All P xs → P (get_or xs i d)
all-at P d [] i b h = absurd (omega arith)
all-at P d (x ∷ xs) zero b h = h.0
all-at P d (x ∷ xs) (suc i) b h = all-at P d xs i (omega arith) h.1

-- where `out` holds of none, all stay
pub leave_out-none : {A : Type 0} (out : A → Bool) (xs : List A) → All (λ (x : A). out x ≡ false) xs → leave_out out xs ≡ xs
leave_out-none out [] h = refl
leave_out-none out (x ∷ xs) h = rw (h.0, leave_out-none out xs h.1)
