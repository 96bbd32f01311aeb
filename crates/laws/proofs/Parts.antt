-- A part of a slice lent by `&mut s[a..e]` comes back as `put_mid a (e - a) xs ys`: what stands at each place of that.
use mathlib.Core.Path.{◌≡◌, refl, sym, ap, ◌∙◌}
use mathlib.Core.List.{List, ◌++◌}
use Prim.Native.Nat.{ℕ, ◌+◌, ◌-◌, ◌≤◌, ◌<◌}
use native.Mathlib.Omega.{arith}
use native.Mathlib.Decide.{dec_lt}
use lib.ListN.{length, take, drop, get_or, length-drop, get_or-append}
use lib.Seq.{get_or-take, get_or-drop, get_or-append-add, length-take-le}
use borrow.Rule.Slice.PartMut.{put_mid, same_len_mid}
use Rattle.laws.specs.Lists.{tabulate}
use Rattle.laws.proofs.Tab.{length-tabulate, get_d_tabulate, is-tabulate, Filled}

-- the part `&s[a..e]` of a list has, at j, what the list has at a + j
pub get_d_part : {A : Type 0} (a k : ℕ) (xs : List A) (j : ℕ) (d : A) → j < k → get_or (take k (drop a xs)) j d ≡ get_or xs (a + j) d
get_d_part a k xs j d h = get_or-take k (drop a xs) j d h ∙ get_or-drop a xs j d

pub length_part : {A : Type 0} (a k : ℕ) (xs : List A) → a + k ≤ length xs → length (take k (drop a xs)) ≡ k
length_part a k xs h = length-take-le k (drop a xs) (omega (arith, length-drop a xs))

-- and is the list given by that
pub part-tabulate : {A : Type 0} (a k : ℕ) (xs : List A) (d : A) → a + k ≤ length xs → take k (drop a xs) ≡ tabulate k (λ j. get_or xs (a + j) d)
part-tabulate a k xs d h = is-tabulate d (take k (drop a xs)) k (λ j. get_or xs (a + j) d) (length_part a k xs h) (λ j b. get_d_part a k xs j d b)

-- get_or of an append, on either side of the seam at n
get_d-left : {A : Type 0} (xs ys : List A) (i n : ℕ) (d : A) → length xs ≡ n → i < n → get_or (xs ++ ys) i d ≡ get_or xs i d
get_d-left xs ys i n d e h = get_or-append xs ys d i (omega arith)

get_d-right : {A : Type 0} (xs ys : List A) (i n j : ℕ) (d : A) → length xs ≡ n → i ≡ n + j → get_or (xs ++ ys) i d ≡ get_or ys j d
get_d-right xs ys i n j d e h = ap (λ (k : ℕ). get_or (xs ++ ys) k d) (h ∙ ap (λ (k : ℕ). k + j) (sym e)) ∙ get_or-append-add xs ys j d

module _ {A : Type 0} (a k : ℕ) (xs ys : List A) (d : A) (inside : a + k ≤ length xs) (same : length ys ≡ k) where
  pub put-before : (i : ℕ) → i < a → get_or (put_mid a k xs ys) i d ≡ get_or xs i d
  put-before i h = get_d-left (take a xs) (ys ++ drop k (drop a xs)) i a d (length-take-le a xs (omega arith)) h ∙ get_or-take a xs i d h

  pub put_in : (j : ℕ) → j < k → get_or (put_mid a k xs ys) (a + j) d ≡ get_or ys j d
  put_in j h =
      get_d-right (take a xs) (ys ++ drop k (drop a xs)) (a + j) a j d (length-take-le a xs (omega arith)) refl
      ∙ get_d-left ys (drop k (drop a xs)) j k d same h

  pub put-after : (i : ℕ) → a + k ≤ i → get_or (put_mid a k xs ys) i d ≡ get_or xs i d
  put-after i h =
      get_d-right (take a xs) (ys ++ drop k (drop a xs)) i a (i - a) d (length-take-le a xs (omega arith)) (omega arith)
      ∙ get_d-right ys (drop k (drop a xs)) (i - a) k (i - a - k) d same (omega arith)
      ∙ get_or-drop k (drop a xs) (i - a - k) d ∙ get_or-drop a xs (k + (i - a - k)) d
      ∙ ap (λ (m : ℕ). get_or xs m d) (omega arith)

  pub put-length : length (put_mid a k xs ys) ≡ length xs
  put-length = same_len_mid a k xs ys (same ∙ sym (length_part a k xs inside))

-- a part written by a callee takes a filled list from a to a + k
pub filled-part : {A : Type 0} {d : A} {f : ℕ → A} {n a : ℕ} {l : List A} (k : ℕ) (m : List A)
    → Filled d f n a l → a + k ≤ n → length m ≡ k → ((j : ℕ) → j < k → get_or m j d ≡ f (a + j)) → Filled d f n (a + k) (put_mid a k l m)
filled-part {A} {d} {f} {n} {a} {l} k m F inside same part = record {
  len = put-length a k l m d (omega (arith, F.len)) same ∙ F.len;
  done = λ i b. step i b (dec_lt i a);
}
  where
    step : (i : ℕ) → i < a + k → Dec (i < a) → get_or (put_mid a k l m) i d ≡ f i
    step i b (yes h) = put-before a k l m d (omega (arith, F.len)) same i h ∙ F.done i h
    step i b (no h) =
        let e : i ≡ a + (i - a) = omega (arith, h) in
        rw e (put_in a k l m d (omega (arith, F.len)) same (i - a) (omega (arith, h)) ∙ part (i - a) (omega (arith, h)))

-- the same of a part that is given as its definition, from x to e
pub part-filled : {A : Type 0} {d : A} {f : ℕ → A} {n x e i k : ℕ} {l m : List A} → Filled d f n x l → x ≤ e → e ≤ n → k ≡ e - x → i ≡ e
    → m ≡ tabulate k (λ j. f (x + j)) → Filled d f n i (put_mid x (e - x) l m)
part-filled {A} {d} {f} {n} {x} {e} {i} {k} {l} {m} F a b q z p =
    let end : x + (e - x) ≡ i = omega (arith, z) in
    let r = rw q at p in
    rw end at (filled-part (e - x) m F (omega arith) (ap length r ∙ length-tabulate (e - x) _) (λ j h. ap (λ (t : List A). get_or t j d) r ∙ get_d_tabulate (e - x) _ d j h))
