-- The list of the weak inner places, as contracts of private functions name it.
use Rattle.std.specs.Prelude.{◌≡◌, cond, List, [], ◌∷◌, ◌++◌, map, length, take, drop, ℕ, zero, suc, ◌+◌, ◌-◌, ◌*◌, ◌<◌, ◌≤◌, eqb, ℤ, pos, nat_abs}

-- the weak places of a stretch of classes, the first of which stands at place i
unfoldable pub weak_from : ℕ → List ℕ → List ℕ
weak_from i [] = []
weak_from i (c ∷ cs) = cond (eqb c 1) (i ∷ weak_from (i + 1) cs) (weak_from (i + 1) cs)

-- the weak ones of the inner places of the m rows from row 1 on
unfoldable pub weak_rows : List ℕ → ℕ → ℕ → List ℕ
weak_rows s w zero = []
weak_rows s w (suc m) = weak_rows s w m ++ weak_from ((m + 1) * w + 1) (take (w - 2) (drop ((m + 1) * w + 1) s))

-- `new` begins as the first n of `old` and then the places ps, and k is where the next one goes. Nothing is said of what stands from k on
pub record Added (n : ℕ) (old : List ℤ) (ps : List ℕ) (new : List ℤ) (k : ℕ) : Type 0 where
  pub len : length new ≡ length old
  pub room : k ≤ length old
  pub listed : take k new ≡ take n old ++ map pos ps

-- p is a place whose neighbours all are in a plane of `size` places, w to a row
abbrev pub Inside : ℕ → ℕ → ℤ → Type 0
Inside w size p = (pos (nat_abs p) ≡ p) × (w + 1 ≤ nat_abs p) × (nat_abs p + w + 1 < size)
