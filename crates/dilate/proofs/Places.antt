-- A plane whose places are rewritten: row by row, and one stretch of places after another.
use mathlib.Core.Path.{◌≡◌, refl, ◌∙◌}
use mathlib.Core.List.{List}
use Prim.Native.Nat.{ℕ, ◌+◌, ◌-◌, ◌*◌, ◌≤◌, ◌<◌}
use native.Mathlib.Decide.{dec_lt}
use native.Mathlib.Omega.{arith}
use lib.ListN.{length, take, drop, get_or}
use borrow.Rule.Slice.PartMut.{put_mid}
use Rattle.dilate.specs.declared.RowOrder.{RowOrder}
use Rattle.dilate.specs.declared.RowOrder.TheVariants.{Down, Up}
use Rattle.dilate.specs.declared.Columns.{Columns}
use Rattle.dilate.specs.Places.{row_at, along, Rewritten}
use Rattle.laws.proofs.Planes.{row-place, row_put, other_put}

pub row-inside : (y : RowOrder) (h v : ℕ) → v < h → row_at y h v < h
row-inside Down h v b = b
row-inside Up h v b = omega arith

same_row : (y : RowOrder) (h u v : ℕ) → u < h → v < h → row_at y h u ≡ row_at y h v → u ≡ v
same_row Down h u v a b e = e
same_row Up h u v a b e = omega arith

-- the row at place v starts at a: what its part has, and the plane where it becomes m
module _ (c : Columns) (l m : List ℕ) (v a : ℕ) (start : a ≡ row_at c.order c.h v * c.w) where
  pub place-part : (x : ℕ) → x < c.w → get_or (take (a + c.w - a) (drop a l)) x 0 ≡ along c l x v
  place-part x h = rw start (row-place 0 (row_at c.order c.h v) c.w x l h)

  pub place-put : (next : ℕ) → next ≡ v + 1 → length l ≡ c.w * c.h → length m ≡ c.w → v < c.h → Rewritten c v next (λ x _. get_or m x 0) l (put_mid a (a + c.w - a) l m)
  place-put next after size long h = record {
    here = λ x u b d p q. let e : u ≡ v = omega arith in rw (e, start) (row_put 0 l m c.w c.h (row_at c.order c.h v) size long (row-inside c.order c.h v h) x b);
    rest = λ x u b d n.
        rw start
        (other_put 0 l m c.w c.h (row_at c.order c.h v) size long (row-inside c.order c.h v h) x (row_at c.order c.h u) b
        (λ e. let s : u ≡ v = same_row c.order c.h u v d h e in n (omega arith) (omega arith)));
  }

-- nothing is rewritten
pub rewritten-none : {c : Columns} {lo : ℕ} {f : ℕ → ℕ → ℕ} {l : List ℕ} → Rewritten c lo lo f l l
rewritten-none = record { here = λ x v a b p q. absurd (omega arith); rest = λ x v a b n. refl }

module _ {c : Columns} {l₀ l m : List ℕ} {f g : ℕ → ℕ → ℕ} {lo mid hi : ℕ} where
  -- the places from lo on, and then those up to hi
  pub then-after : Rewritten c lo mid f l₀ l → Rewritten c mid hi g l m → lo ≤ mid → mid ≤ hi → ((x v : ℕ) → x < c.w → v < c.h → mid ≤ v → v < hi → g x v ≡ f x v) → Rewritten c lo hi f l₀ m
  then-after A B p q e = record {
    here = λ x v a b s t. here x v a b s t (dec_lt v mid);
    rest = λ x v a b n. B.rest x v a b (λ s t. n (omega arith) t) ∙ A.rest x v a b (λ s t. n s (omega arith));
  }
    where
      here : (x v : ℕ) → x < c.w → v < c.h → lo ≤ v → v < hi → Dec (v < mid) → along c m x v ≡ f x v
      here x v a b s t (yes d) = B.rest x v a b (λ u w. absurd (omega arith)) ∙ A.here x v a b s d
      here x v a b s t (no d) = let k : mid ≤ v = omega (arith, d) in B.here x v a b k t ∙ e x v a b k t

  -- the places up to hi, and then those before them
  pub then-before : Rewritten c mid hi f l₀ l → Rewritten c lo mid g l m → lo ≤ mid → mid ≤ hi → ((x v : ℕ) → x < c.w → v < c.h → lo ≤ v → v < mid → g x v ≡ f x v) → Rewritten c lo hi f l₀ m
  then-before A B p q e = record {
    here = λ x v a b s t. here x v a b s t (dec_lt v mid);
    rest = λ x v a b n. B.rest x v a b (λ s t. n s (omega arith)) ∙ A.rest x v a b (λ s t. n (omega arith) t);
  }
    where
      here : (x v : ℕ) → x < c.w → v < c.h → lo ≤ v → v < hi → Dec (v < mid) → along c m x v ≡ f x v
      here x v a b s t (yes d) = B.here x v a b s d ∙ e x v a b s d
      here x v a b s t (no d) = B.rest x v a b (λ u w. absurd (omega (arith, d))) ∙ A.here x v a b (omega (arith, d)) t
