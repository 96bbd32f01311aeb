-- What a clause says of a call of a value that is lent two lists. The library says it of one.
use Rattle.std.specs.Prelude.{◌≡◌}
use Rattle.std.specs.Fn.{Once}
use denote.Ref.{MutBor}

-- f may be called once at a `&mut` to x and one to y
abbrev pub FnOnceTakesAtPairMut : {F T R : Type 0} → Once F (MutBor T × (MutBor T × Unit {0})) R → F → T → T → Type 0
FnOnceTakesAtPairMut {F} {T} g f x y = (p q : MutBor T) → p.now ≡ x → q.now ≡ y → g.pre f (p, (q, tt))

-- at a `&mut` to x and one to y, it may give r and leave x' and y' there
pub record FnOnceReturnsAtPairMut {F T R : Type 0} (g : Once F (MutBor T × (MutBor T × Unit {0})) (R × (MutBor T × (MutBor T × Unit {0})))) (f : F) (x y : T) (r : R) (x' y' : T) : Type 0 where
  pub first : MutBor T
  pub second : MutBor T
  pub shows : (first.now ≡ x) × (second.now ≡ y)
  pub left : MutBor T × (MutBor T × Unit {0})
  pub met : g.post f (first, (second, tt)) (r, left)
  pub leaves : (left.0.now ≡ x') × (left.1.0.now ≡ y')
