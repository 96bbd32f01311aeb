-- Lists made of parts, one after the other: what a part reads, and what writing a part leaves. A part that lies past x is a part of
-- what follows x.
use mathlib.Core.Path.{◌≡◌}
use mathlib.Core.List.{List, ◌++◌, append_assoc}
use Prim.Native.Nat.{ℕ, ◌+◌}
use lib.ListN.{length, take, drop}
use lib.Seq.{take_at, drop_at, take-append-add, drop-append-add}
use borrow.Rule.Slice.PartMut.{put_mid}

module _ {A : Type 0} (x l : List A) where
  drop_past : (m a : ℕ) → length x ≡ m → drop (m + a) (x ++ l) ≡ drop a l
  drop_past m a e = rw (← e) (drop-append-add x l a)

  take_past : (m a : ℕ) → length x ≡ m → take (m + a) (x ++ l) ≡ x ++ take a l
  take_past m a e = rw (← e) (take-append-add x l a)

  pub skip-part : (m a k : ℕ) → length x ≡ m → take k (drop (m + a) (x ++ l)) ≡ take k (drop a l)
  skip-part m a k e = rw (drop_past m a e)

  pub first_part : (k : ℕ) → length x ≡ k → take k (x ++ l) ≡ x
  first_part k e = take_at x l k e

  pub after-part : (k : ℕ) → length x ≡ k → drop k (x ++ l) ≡ l
  after-part k e = drop_at x l k e

  pub skip-put : (m a k : ℕ) (v : List A) → length x ≡ m → put_mid (m + a) k (x ++ l) v ≡ x ++ put_mid a k l v
  skip-put m a k v e = rw (take_past m a e, drop_past m a e) (append_assoc x (take a l) (v ++ drop k (drop a l)))

-- a part that follows x at once
pub next-put : {A : Type 0} (x l : List A) (m k : ℕ) (v : List A) → length x ≡ m → put_mid m k (x ++ l) v ≡ x ++ (v ++ drop k l)
next-put x l m k v e = rw (take_at x l m e, drop_at x l m e)
