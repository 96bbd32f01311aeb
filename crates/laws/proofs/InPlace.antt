-- A list that a loop rewrites in place: each element becomes f of its place and of what stood there.
use Rattle.laws.specs.Lists.{tabulate, plane}
use mathlib.Core.Path.{◌≡◌, refl, sym, ap, ◌∙◌}
use mathlib.Core.List.{List}
use Prim.Native.Nat.{ℕ, zero, suc, ◌+◌, ◌-◌, ◌*◌, ◌/◌, ◌%◌, ◌≤◌, ◌<◌}
use native.Mathlib.Nat.{mul-le-mul_right}
use native.Mathlib.Omega.{arith}
use native.Mathlib.Decide.{dec_lt}
use lib.ListN.{length, take, drop, get_or}
use borrow.Rule.Slice.PartMut.{put_mid}
use Rattle.laws.proofs.Tab.{is-tabulate, length-tabulate, get_d_tabulate}
use Rattle.laws.proofs.Parts.{put-before, put_in, put-after, put-length, get_d_part}
use Rattle.laws.proofs.Grid.{row-end, row_of, col-of, place}
use Rattle.laws.proofs.Planes.{width}

-- the row above ends where this one starts
pub row_before : (y w : ℕ) → 1 ≤ y → (y - 1) * w + w ≡ y * w
row_before zero w h = absurd (omega arith)
row_before (suc y) w h = let e : suc y - 1 ≡ y = omega arith in rw e (omega arith)

-- the places below i are rewritten, the others are as in l₀
pub record Mapped {A : Type 0} (d : A) (f : ℕ → A → A) (l₀ : List A) (i : ℕ) (l : List A) : Type 0 where
  pub len : length l ≡ length l₀
  pub done : (k : ℕ) → k < i → get_or l k d ≡ f k (get_or l₀ k d)
  pub rest : (k : ℕ) → i ≤ k → get_or l k d ≡ get_or l₀ k d

pub mapped-none : {A : Type 0} {d : A} {f : ℕ → A → A} {l₀ : List A} {i : ℕ} → i ≡ 0 → Mapped d f l₀ i l₀
mapped-none e = record { len = refl; done = λ k h. absurd (omega arith); rest = λ k h. refl }

-- a part of n elements rewritten by another function that is f there
pub mapped-part : {A : Type 0} {d : A} {f : ℕ → A → A} {l₀ l : List A} {a : ℕ} (n : ℕ) (g : ℕ → A → A) (m : List A) → Mapped d f l₀ a l → a + n ≤ length l₀
    → m ≡ tabulate n (λ j. g j (get_or (take n (drop a l)) j d)) → ((j : ℕ) → j < n → g j (get_or l₀ (a + j) d) ≡ f (a + j) (get_or l₀ (a + j) d))
    → Mapped d f l₀ (a + n) (put_mid a n l m)
mapped-part {A} {d} {f} {l₀} {l} {a} n g m M inside e same = record {
  len = put-length a n l m d (omega (arith, M.len)) size ∙ M.len;
  done = λ k b. step k b (dec_lt k a);
  rest = λ k b. put-after a n l m d (omega (arith, M.len)) size k b ∙ M.rest k (omega arith);
}
  where
    size : length m ≡ n
    size = ap length e ∙ length-tabulate n (λ j. g j (get_or (take n (drop a l)) j d))

    inner : (j : ℕ) → j < n → get_or m j d ≡ f (a + j) (get_or l₀ (a + j) d)
    inner j b =
        ap (λ (t : List A). get_or t j d) e ∙ get_d_tabulate n (λ j. g j (get_or (take n (drop a l)) j d)) d j b
        ∙ ap (g j) (get_d_part a n l j d b ∙ M.rest (a + j) (omega arith))
        ∙ same j b

    step : (k : ℕ) → k < a + n → Dec (k < a) → get_or (put_mid a n l m) k d ≡ f k (get_or l₀ k d)
    step k b (yes h) = put-before a n l m d (omega (arith, M.len)) size k h ∙ M.done k h
    step k b (no h) =
        let q : k ≡ a + (k - a) = omega (arith, h) in
        rw q (put_in a n l m d (omega (arith, M.len)) size (k - a) (omega (arith, h)) ∙ inner (k - a) (omega (arith, h)))

pub mapped-all : {A : Type 0} {d : A} {f : ℕ → A → A} {l₀ l : List A} {i n : ℕ} → Mapped d f l₀ i l → length l₀ ≡ n → n ≤ i
    → l ≡ tabulate n (λ k. f k (get_or l₀ k d))
mapped-all {A} {d} {f} {l₀} {l} {i} {n} M e h =
    is-tabulate d l n (λ k. f k (get_or l₀ k d)) (M.len ∙ e) (λ k b. M.done k (omega arith))

-- the same for a plane, row by row: g x y is what a place at column x of row y becomes. A record, so that g is found from a hypothesis
pub record MappedRows {A : Type 0} (d : A) (g : ℕ → ℕ → A → A) (w h y : ℕ) (l₀ l : List A) : Type 0 where
  pub size : length l₀ ≡ w * h
  pub mapped : Mapped d (λ k v. g (k % w) (k / w) v) l₀ (y * w) l

pub mapped-rows-none : {A : Type 0} {d : A} {g : ℕ → ℕ → A → A} {w h : ℕ} {l₀ : List A} → length l₀ ≡ w * h → MappedRows d g w h 0 l₀ l₀
mapped-rows-none e = record { size = e; mapped = mapped-none (omega arith) }

pub mapped-rows-more : {A : Type 0} {d : A} {g : ℕ → ℕ → A → A} {w h y : ℕ} {l₀ l m : List A} → MappedRows d g w h y l₀ l → y < h
    → m ≡ tabulate w (λ x. g x y (get_or (take (y * w + w - y * w) (drop (y * w) l)) x d))
    → MappedRows d g w h (y + 1) l₀ (put_mid (y * w) (y * w + w - y * w) l m)
mapped-rows-more {A} {d} {g} {w} {h} {y} {l₀} {l} {m} R b e =
    let next : (y + 1) * w ≡ y * w + w = omega arith in
    record {
      size = R.size;
      mapped = rw (next, width (y * w) w)
          (mapped-part w (λ x v. g x y v) m R.mapped (omega (arith, R.size, row-end y w h b)) (rw (width (y * w) w) at e)
          (λ j k. sym (cc (row_of y w j k, col-of y w j k))));
    }

pub mapped-rows-all : {A : Type 0} {d : A} {g : ℕ → ℕ → A → A} {w h y : ℕ} {l₀ l : List A} → MappedRows d g w h y l₀ l → h ≤ y
    → l ≡ plane w h (λ x y. g x y (get_or l₀ (y * w + x) d))
mapped-rows-all {A} {d} {g} {w} {h} {y} {l₀} {l} R b =
    is-tabulate d l (w * h) (λ k. g (k % w) (k / w) (get_or l₀ (k / w * w + k % w) d)) (R.mapped.len ∙ R.size)
    (λ k h. R.mapped.done k (omega (arith, mul-le-mul_right w b)) ∙ ap (λ (n : ℕ). g (k % w) (k / w) (get_or l₀ n d)) (sym (place k w)))
