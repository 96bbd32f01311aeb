-- A plane of magnitudes that is written row by row, and the classes of row y once the rows up to y + 1 are written.
use mathlib.Core.Path.{◌≡◌, refl, sym, ap, ◌∙◌}
use mathlib.Core.Bool.{Bool, true, false}
use mathlib.Core.List.{List}
use Prim.Native.Nat.{ℕ, zero, suc, ◌+◌, ◌-◌, ◌*◌, ◌≤◌, ◌<◌}
use native.Mathlib.Decide.{dec_lt, ℕ_discrete}
use native.Mathlib.Omega.{arith}
use lib.IntN.{ℤ, pos}
use lib.ListN.{length, take, drop, get_or, replicate, length-replicate, get_or-replicate}
use borrow.Author.Tests.{eq-eqb, ne_eqb}
use borrow.Rule.Slice.PartMut.{put_mid}
use Rattle.laws.specs.Lists.{tabulate, plane}
use Rattle.laws.proofs.Grid.{row-end}
use Rattle.laws.proofs.Parts.{put-after, put-length, get_d_part, length_part}
use Rattle.laws.proofs.Planes.{width, row_put, other_put, is-plane, get_d-plane}
use Rattle.laws.proofs.Tab.{length-tabulate, get_d_tabulate, is-tabulate, Filled}
use Rattle.arch_sobel.specs.Sobel.{inner, mag_at, dir_at, sobel_mag}
use Rattle.arch_sobel.proofs.Inner.{Within, within}
use Rattle.laws.proofs.Parts.{part-filled}
use Rattle.canny_thin.specs.Blocks.{class_in, mag_or, with_row}
use Rattle.canny_thin.specs.Thin.{ahead, behind, class_at, magnitude}
use Rattle.canny_thin.proofs.Near.{class-border}

-- the plane without a row n stays as it is
pub no-row : (luma : List ℕ) (mag : List ℤ) (w h n : ℕ) → length mag ≡ w * h → h ≤ n → mag ≡ with_row luma mag w h n
unfolding with_row
no-row luma mag w h n l b = is-plane (pos 0) w h (mag_or luma mag w h n) mag l (λ x y p q. rw (ne_eqb y n (λ e. omega arith)))

-- row n put into the plane
pub row-put : (luma : List ℕ) (mag m : List ℤ) (w h n : ℕ) → length mag ≡ w * h → n < h → m ≡ tabulate w (λ x. mag_at luma w h x n)
    → put_mid (n * w) (n * w + w - n * w) mag m ≡ with_row luma mag w h n
unfolding with_row
row-put luma mag m w h n l b e =
    is-plane (pos 0) w h (mag_or luma mag w h n) _ same (λ x y p q. at x y p (ℕ_discrete y n))
  where
    size : length m ≡ w
    size = ap length e ∙ length-tabulate w _

    same : length (put_mid (n * w) (n * w + w - n * w) mag m) ≡ w * h
    same = rw (width (n * w) w) (put-length (n * w) w mag m (pos 0) (omega (arith, row-end n w h b)) size ∙ l)

    at : (x y : ℕ) → x < w → Dec (y ≡ n) → get_or (put_mid (n * w) (n * w + w - n * w) mag m) (y * w + x) (pos 0) ≡ mag_or luma mag w h n x y
    at x y p (yes s) =
        rw (eq-eqb y n s, s) (row_put (pos 0) mag m w h n l size b x p ∙ ap (λ (t : List ℤ). get_or t x (pos 0)) e ∙ get_d_tabulate w _ (pos 0) x p)
    at x y p (no s) = rw (ne_eqb y n s) (other_put (pos 0) mag m w h n l size b x y p s)

-- the rows above n are the luma's magnitudes. A record, so that luma is found from a hypothesis
pub record Ready (luma : List ℕ) (w h n : ℕ) (mag : List ℤ) : Type 0 where
  pub len : length mag ≡ w * h
  pub done : (x y : ℕ) → x < w → y < h → y < n → get_or mag (y * w + x) (pos 0) ≡ mag_at luma w h x y

pub ready-none : {luma : List ℕ} {mag : List ℤ} {w h : ℕ} → length mag ≡ w * h → Ready luma w h 0 mag
ready-none e = record { len = e; done = λ x y a b c. absurd (omega arith) }

pub ready-more : {luma : List ℕ} {mag m : List ℤ} {w h n : ℕ} → Ready luma w h n mag → m ≡ with_row luma mag w h n → Ready luma w h (n + 1) m
unfolding with_row
ready-more {luma} {mag} {m} {w} {h} {n} R e = record {
  len = ap length e ∙ length-tabulate (w * h) _;
  done = λ x y a b c. ap (λ (t : List ℤ). get_or t (y * w + x) (pos 0)) e ∙ get_d-plane (pos 0) w h (mag_or luma mag w h n) x y a b ∙ at x y a b c (ℕ_discrete y n);
}
  where
    at : (x y : ℕ) → x < w → y < h → y < n + 1 → Dec (y ≡ n) → mag_or luma mag w h n x y ≡ mag_at luma w h x y
    at x y a b c (yes p) = rw (eq-eqb y n p)
    at x y a b c (no p) = rw (ne_eqb y n p) (R.done x y a b (omega (arith, p)))

pub ready-all : {luma : List ℕ} {mag : List ℤ} {w h n : ℕ} → Ready luma w h n mag → h ≤ n → mag ≡ sobel_mag luma w h
unfolding sobel_mag
ready-all {luma} {mag} {w} {h} {n} R b = is-plane (pos 0) w h (mag_at luma w h) mag R.len (λ x y p q. R.done x y p q (omega arith))

-- two planes of magnitudes that agree in the rows up to y + 1 give row y the same classes
module _ (mag m : List ℤ) (w h y : ℕ) (same : (x r : ℕ) → x < w → r < h → r < y + 2 → magnitude mag w x r ≡ magnitude m w x r) where
  same-ahead : (d x : ℕ) → Within w h x y (w * h) → ahead mag w d x y ≡ ahead m w d x y
  unfolding ahead
  same-ahead zero x W = same (x + 1) y W.right (omega (arith, W.bottom)) (omega arith)
  same-ahead (suc zero) x W = same (x + 1) (y + 1) W.right W.bottom (omega arith)
  same-ahead (suc (suc zero)) x W = same x (y + 1) (omega (arith, W.right)) W.bottom (omega arith)
  same-ahead (suc (suc (suc d))) x W = same (x + 1) (y - 1) W.right (omega (arith, W.bottom)) (omega arith)

  same-behind : (d x : ℕ) → Within w h x y (w * h) → behind mag w d x y ≡ behind m w d x y
  unfolding behind
  same-behind zero x W = same (x - 1) y (omega (arith, W.right)) (omega (arith, W.bottom)) (omega arith)
  same-behind (suc zero) x W = same (x - 1) (y - 1) (omega (arith, W.right)) (omega (arith, W.bottom)) (omega arith)
  same-behind (suc (suc zero)) x W = same x (y - 1) (omega (arith, W.right)) (omega (arith, W.bottom)) (omega arith)
  same-behind (suc (suc (suc d))) x W = same (x - 1) (y + 1) (omega (arith, W.right)) W.bottom (omega arith)

  pub same-class : (low high d x : ℕ) → class_at mag w h low high d x y ≡ class_at m w h low high d x y
  unfolding class_at
  same-class low high d x = go (inner w h x y) refl
    where
      go : (b : Bool) → inner w h x y ≡ b → class_at mag w h low high d x y ≡ class_at m w h low high d x y
      go true e =
          let W = within w h x y (w * h) e refl in
          rw (same x y (omega (arith, W.right)) (omega (arith, W.bottom)) (omega arith), same-ahead d x W, same-behind d x W)
      go false e = sym (class-border mag w h low high d x y e) ∙ class-border m w h low high d x y e

-- a row of classes by the magnitudes written so far is that by all of them
pub row-ready : {luma : List ℕ} {mag : List ℤ} {w h n : ℕ} (low high y : ℕ) (row : List ℕ) → Ready luma w h n mag → y + 1 < n
    → row ≡ tabulate w (λ x. class_in luma mag w h low high x y) → row ≡ tabulate w (λ x. class_in luma (sobel_mag luma w h) w h low high x y)
unfolding sobel_mag
row-ready {luma} {mag} {w} {h} {n} low high y row R b e =
    is-tabulate 0 row w _ (ap length e ∙ length-tabulate w _)
    (λ x p.
    ap (λ (t : List ℕ). get_or t x 0) e ∙ get_d_tabulate w _ 0 x p
    ∙ same-class mag (plane w h (mag_at luma w h)) w h y
    (λ x r p q s. R.done x r p q (omega arith) ∙ sym (get_d-plane (pos 0) w h (mag_at luma w h) x r p q)) low high (dir_at luma w h x y) x)

-- a row that is filled up to x, and 0 from there on. A record, so that f is found from a hypothesis
pub record Begun (f : ℕ → ℕ) (w x : ℕ) (l : List ℕ) : Type 0 where
  pub filled : Filled 0 f w x l
  pub clear : (k : ℕ) → x ≤ k → k < w → get_or l k 0 ≡ 0

pub begun : (f : ℕ → ℕ) (w n : ℕ) (l : List ℕ) → l ≡ replicate n 0 → n ≡ w → 0 ≡ f 0 → 0 < w → Begun f w 1 l
begun f w n l e q z h = record {
  filled = record { len = ap length e ∙ length-replicate n 0 ∙ q; done = λ k b. let o : k ≡ 0 = omega arith in rw o (at 0 h ∙ z) };
  clear = λ k a b. at k b;
}
  where
    at : (k : ℕ) → k < w → get_or l k 0 ≡ 0
    at k b = ap (λ (t : List ℕ). get_or t k 0) e ∙ get_or-replicate n k 0 0 (omega (arith, q))

pub begun-more : {f : ℕ → ℕ} {w x e i k : ℕ} {l m : List ℕ} → Begun f w x l → x ≤ e → e ≤ w → k ≡ e - x → i ≡ e → m ≡ tabulate k (λ j. f (x + j))
    → Begun f w i (put_mid x (e - x) l m)
begun-more {f} {w} {x} {e} {i} {k} {l} {m} B a b q z p = record {
  filled = part-filled B.filled a b q z p;
  clear = λ j c d. put-after x (e - x) l m 0 (omega (arith, B.filled.len)) (ap length p ∙ length-tabulate k _ ∙ q) j (omega (arith, z)) ∙ B.clear j (omega (arith, z)) d;
}

pub begun-all : {f : ℕ → ℕ} {w x : ℕ} {l : List ℕ} → Begun f w x l → ((k : ℕ) → x ≤ k → k < w → 0 ≡ f k) → l ≡ tabulate w f
begun-all {f} {w} {x} {l} B z = is-tabulate 0 l w f B.filled.len (λ k b. at k b (dec_lt k x))
  where
    at : (k : ℕ) → k < w → Dec (k < x) → get_or l k 0 ≡ f k
    at k b (yes p) = B.filled.done k p
    at k b (no p) = B.clear k (omega (arith, p)) b ∙ z k (omega (arith, p)) b

-- the next part is 0
pub part-clear : {f : ℕ → ℕ} {w x : ℕ} {l : List ℕ} (e : ℕ) → Begun f w x l → x ≤ e → e ≤ w → (j : ℕ) → j < length (take (e - x) (drop x l)) → get_or (take (e - x) (drop x l)) j 0 ≡ 0
part-clear {f} {w} {x} {l} e B h a j b =
    let n : j < e - x = rw (length_part x (e - x) l (omega (arith, B.filled.len))) at b in
    get_d_part x (e - x) l j 0 n ∙ B.clear (x + j) (omega arith) (omega (arith, n))
