-- The median of a luma plane of n bytes: the value at place floor(n / 2), counted from 0, of the sorted bytes; 255 for an empty plane
-- (RULES 5.3).
use Rattle.std.specs.Prelude.{Bool, cond, List, [], ◌∷◌, ℕ, ◌+◌, ◌/◌, leb, length, get_or}

-- v put before the first element that is not below it
unfoldable pub insert : ℕ → List ℕ → List ℕ
insert v [] = v ∷ []
insert v (b ∷ bs) = cond (leb v b) (v ∷ (b ∷ bs)) (b ∷ insert v bs)

-- the elements in order, the smallest first
unfoldable pub sort : List ℕ → List ℕ
sort [] = []
sort (b ∷ bs) = insert b (sort bs)

-- the median: the element at place floor(n / 2) of the sorted luma; 255 where there is none
unfoldable pub median_of : List ℕ → ℕ
median_of luma = get_or (sort luma) (length luma / 2) 255

-- how many elements p holds of
unfoldable pub count : (ℕ → Bool) → List ℕ → ℕ
count p [] = 0
count p (b ∷ bs) = cond (p b) 1 0 + count p bs
