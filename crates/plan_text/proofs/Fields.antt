-- The fields of a row, and the row that they are.
use mathlib.Core.Path.{◌≡◌, refl, ap}
use mathlib.Core.Bool.{Bool, true, false, cond}
use mathlib.Core.List.{List, [], ◌∷◌}
use Prim.Native.Nat.{ℕ}
use Rattle.std.proofs.Common.{Option, Some, None}
use Rattle.decimal.specs.Parts.{parted}
use Rattle.decimal.specs.Reading.{number_read}
use Rattle.light_plan.specs.Rows.{row}
use Rattle.plan_text.specs.Text.{leading_zero, field_read, row_if, row_of_fields, row_read}

pub field_refused : (t : List ℕ) → leading_zero t ≡ true → None ≡ field_read t
unfolding field_read
field_refused t z = rw z refl

pub field_number : (t : List ℕ) → leading_zero t ≡ false → field_read t ≡ number_read 255 t
unfolding field_read
field_number t z = rw z refl

-- a field that was read is a number of at most 255 without a leading zero
pub field_some : (t : List ℕ) (n : ℕ) → field_read t ≡ Some n → (leading_zero t ≡ false) × (number_read 255 t ≡ Some n)
unfolding field_read
field_some t n e = by-test (leading_zero t) refl e
  where
    by-test : (z : Bool) → leading_zero t ≡ z → cond z None (number_read 255 t) ≡ Some n → (leading_zero t ≡ false) × (number_read 255 t ≡ Some n)
    by-test true z e = cc
    by-test false z e = (z, e)

-- a row is what its fields are
pub row_from : (line : List ℕ) (fields : List (List ℕ)) → parted 44 line ≡ fields → row_read line ≡ row_of_fields fields
unfolding row_read
row_from line fields e = ap row_of_fields e

none_second : (from threshold : Option ℕ) → None ≡ row_if from None threshold
none_second None threshold = refl
none_second (Some from) threshold = refl

none_third : (from to : Option ℕ) → None ≡ row_if from to None
none_third None to = refl
none_third (Some from) None = refl
none_third (Some from) (Some to) = refl

module _ (f : List ℕ) where
  pub no_from : (rest : List (List ℕ)) → field_read f ≡ None → None ≡ row_of_fields (f ∷ rest)
  no_from [] e = refl
  no_from (g ∷ []) e = refl
  no_from (g ∷ h ∷ []) e = rw e refl
  no_from (g ∷ h ∷ i ∷ rest) e = refl

  pub no_second : (rest : List (List ℕ)) → rest ≡ [] → None ≡ row_of_fields (f ∷ rest)
  no_second rest e = rw e refl

  module _ (g : List ℕ) where
    pub no_to : (rest : List (List ℕ)) → field_read g ≡ None → None ≡ row_of_fields (f ∷ g ∷ rest)
    no_to [] e = refl
    no_to (h ∷ []) e = rw e (none_second (field_read f) (field_read h))
    no_to (h ∷ i ∷ rest) e = refl

    pub no_third : (rest : List (List ℕ)) → rest ≡ [] → None ≡ row_of_fields (f ∷ g ∷ rest)
    no_third rest e = rw e refl

    module _ (h : List ℕ) where
      pub no_threshold : (rest : List (List ℕ)) → field_read h ≡ None → None ≡ row_of_fields (f ∷ g ∷ h ∷ rest)
      no_threshold [] e = rw e (none_third (field_read f) (field_read g))
      no_threshold (i ∷ rest) e = refl

      pub one_more : (i : List ℕ) (rest more : List (List ℕ)) → rest ≡ i ∷ more → None ≡ row_of_fields (f ∷ g ∷ h ∷ rest)
      one_more i rest more e = rw e refl

      pub the_row : (rest : List (List ℕ)) (a b c : ℕ) → rest ≡ []
          → field_read f ≡ Some a → field_read g ≡ Some b → field_read h ≡ Some c → Some (row a b c) ≡ row_of_fields (f ∷ g ∷ h ∷ rest)
      the_row rest a b c e x y z = rw (e, x, y, z) refl
