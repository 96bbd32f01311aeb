-- The places of a column, counted one way or the other: what the private functions of `dilate` promise each other. No promise of a callable
-- function cites anything of this file.
use Rattle.std.specs.Prelude.{◌≡◌, List, ℕ, ◌+◌, ◌-◌, ◌*◌, ◌≤◌, ◌<◌, get_or}
use Rattle.dilate.specs.declared.RowOrder.{RowOrder}
use Rattle.dilate.specs.declared.RowOrder.TheVariants.{Down, Up}
use Rattle.dilate.specs.declared.Columns.{Columns}

-- the row at place v of h
abbrev pub row_at : RowOrder → ℕ → ℕ → ℕ
row_at Down h v = v
row_at Up h v = h - 1 - v

-- the byte of column x at place v
abbrev pub along : Columns → List ℕ → ℕ → ℕ → ℕ
along c l x v = get_or l (row_at c.order c.h v * c.w + x) 0

-- l has f x v in column x at the places v with lo ≤ v and v < hi, and all else is as in l₀
pub record Rewritten (c : Columns) (lo hi : ℕ) (f : ℕ → ℕ → ℕ) (l₀ l : List ℕ) : Type 0 where
  pub here : (x v : ℕ) → x < c.w → v < c.h → lo ≤ v → v < hi → along c l x v ≡ f x v
  pub rest : (x v : ℕ) → x < c.w → v < c.h → (lo ≤ v → v < hi → ⊥) → along c l x v ≡ along c l₀ x v
