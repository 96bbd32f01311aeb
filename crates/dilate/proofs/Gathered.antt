-- What `Columns::gather` and `Columns::reach_on` know at a place of a block.
use mathlib.Core.Path.{◌≡◌, refl, sym, ap, ◌∙◌}
use mathlib.Core.List.{List}
use Prim.Native.Nat.{ℕ, ◌+◌, ◌-◌, ◌*◌, ◌≤◌, ◌<◌, min, max}
use native.Mathlib.Omega.{arith}
use lib.ListN.{length, take, drop, get_or, replicate}
use borrow.Rule.Slice.PartMut.{put_mid}
use Rattle.std.proofs.lemmas.List.{get_or-replicate}
use Rattle.laws.specs.Lists.{max_in}
use Rattle.laws.proofs.Max.{max_none, max-first, max-last}
use Rattle.laws.proofs.Parts.{put-length}
use Rattle.dilate.specs.declared.Columns.{Columns}
use Rattle.dilate.specs.Places.{row_at, along, Rewritten}
use Rattle.laws.proofs.Planes.{row-part}
use Rattle.dilate.proofs.Places.{row-inside, place-part, place-put, rewritten-none, then-before, then-after}

-- the places from v to end are done, and b has the largest of them
pub record Gathered (c : Columns) (start end : ℕ) (l₀ : List ℕ) (v : ℕ) (l b : List ℕ) : Type 0 where
  pub low : start ≤ v
  pub len : length l ≡ length l₀
  pub done : Rewritten c v end (λ x v. max_in v end (along c l₀ x)) l₀ l
  pub largest : (x : ℕ) → x < c.w → get_or b x 0 ≡ max_in v end (along c l₀ x)

pub gathered-none : {c : Columns} {start end n : ℕ} {l b : List ℕ} → start ≤ end → b ≡ replicate n 0 → n ≡ c.w → Gathered c start end l end l b
gathered-none {c} {start} {end} {n} {l} {b} p e h = record {
  low = p;
  len = refl;
  done = rewritten-none;
  largest = λ x p.
      ap (λ (m : List ℕ). get_or m x 0) e ∙ get_or-replicate n x 0 0 (omega arith) ∙ sym (max_none end end (along c l x) (omega arith));
}

-- place v is raised into b, whose row starts at a, and becomes b
pub gathered-more : {c : Columns} {start end next : ℕ} {l₀ l b : List ℕ} (v a : ℕ) (m row : List ℕ) → Gathered c start end l₀ next l b → next ≡ v + 1 → start ≤ v → v < end → v < c.h → a ≡ row_at c.order c.h v * c.w → a + c.w ≤ length l
    → length l₀ ≡ c.w * c.h → length b ≡ c.w → ((x : ℕ) → x < length b → get_or m x 0 ≡ max (get_or b x 0) (get_or (take (a + c.w - a) (drop a l)) x 0)) → row ≡ m → length m ≡ length b
    → Gathered c start end l₀ v (put_mid a (a + c.w - a) l row) m
gathered-more {c} {start} {end} {next} {l₀} {l} {b} v a m row G up low inside high first part size long raised copied same = record {
  low = low;
  len = put-length a (a + c.w - a) l row 0 (omega arith) (omega (arith, ap length copied)) ∙ G.len;
  done = then-before G.done (place-put c l row v a first next up (omega (arith, G.len)) (omega (arith, ap length copied)) high) (omega arith) (omega arith)
      (λ x u p q s t. let e : u ≡ v = omega arith in ap (λ (y : List ℕ). get_or y x 0) copied ∙ largest x p ∙ ap (λ (y : ℕ). max_in y end (along c l₀ x)) (sym e));
  largest = largest;
}
  where
    largest : (x : ℕ) → x < c.w → get_or m x 0 ≡ max_in v end (along c l₀ x)
    largest x h =
        omega (
          arith,
          raised x (omega arith),
          place-part c l row v a first x h,
          G.largest x h,
          G.done.rest x v h high (λ p q. absurd (omega arith)),
          ap (λ (y : ℕ). max_in y end (along c l₀ x)) up,
          max-first v end (along c l₀ x) inside,
        )

pub gathered-all : {c : Columns} {start end v : ℕ} {l₀ l b : List ℕ} → Gathered c start end l₀ v l b → v ≤ start → Rewritten c start end (λ x v. max_in v end (along c l₀ x)) l₀ l
gathered-all {c} {start} {end} {v} {l₀} {l} {b} G h = let e : start ≡ v = omega (arith, G.low) in rw e G.done

-- past the block from start on that the window of place v reaches
abbrev pub reached : Columns → ℕ → List ℕ → ℕ → ℕ → ℕ
reached c start l x v = max_in (start + c.n) (min c.h (v + c.n)) (along c l x)

-- the places from start up to v are done, and b has the largest that the last of them reaches
pub record ReachedOn (c : Columns) (start : ℕ) (l₀ : List ℕ) (v : ℕ) (l b : List ℕ) : Type 0 where
  pub low : start < v
  pub done : Rewritten c start v (λ x v. max (along c l₀ x v) (reached c start l₀ x v)) l₀ l
  pub largest : (x : ℕ) → x < c.w → get_or b x 0 ≡ reached c start l₀ x (v - 1)

pub reached-none : {c : Columns} {start n : ℕ} {l b : List ℕ} → b ≡ replicate n 0 → n ≡ c.w → ReachedOn c start l (start + 1) l b
reached-none {c} {start} {n} {l} {b} e h = record {
  low = omega arith;
  done = record {
    here = λ x v p q s t. let k : v ≡ start = omega arith in rw k (omega (arith, none x start (omega arith)));
    rest = λ x v p q k. refl;
  };
  largest = λ x p. ap (λ (m : List ℕ). get_or m x 0) e ∙ get_or-replicate n x 0 0 (omega arith) ∙ sym (none x (start + 1 - 1) (omega arith));
}
  where
    none : (x v : ℕ) → v ≤ start → reached c start l x v ≡ 0
    none x v k = max_none (start + c.n) (min c.h (v + c.n)) (along c l x) (omega arith)

-- b takes in the last place of the window of v, whose row starts at a, or there is no such place
pub taken-in : {c : Columns} {start v : ℕ} {l₀ l b : List ℕ} (a : ℕ) (m : List ℕ) → ReachedOn c start l₀ v l b → 0 < c.n → v + c.n - 1 < c.h → a ≡ row_at c.order c.h (v + c.n - 1) * c.w → v < start + c.n → length b ≡ c.w
    → ((x : ℕ) → x < length b → get_or m x 0 ≡ max (get_or b x 0) (get_or (take (a + c.w - a) (drop a l)) x 0)) → (x : ℕ) → x < c.w → get_or m x 0 ≡ reached c start l₀ x v
taken-in {c} {start} {v} {l₀} {l} {b} a m R pos high first inside long raised x h =
    let last = v + c.n - 1 in
    let before : min c.h (v - 1 + c.n) ≡ last = omega (arith, R.low) in
    let after : min c.h (v + c.n) ≡ last + 1 = omega (arith, R.low) in
    omega (
      arith,
      raised x (omega arith),
      place-part c l m last a first x h,
      R.largest x h,
      R.done.rest x last h high (λ p q. absurd (omega arith)),
      ap (λ (y : ℕ). max_in (start + c.n) y (along c l₀ x)) before,
      ap (λ (y : ℕ). max_in (start + c.n) y (along c l₀ x)) after,
      max-last (start + c.n) last (along c l₀ x) (omega (arith, R.low)),
    )

pub not-taken : {c : Columns} {start v : ℕ} {l₀ l b : List ℕ} → ReachedOn c start l₀ v l b → c.h ≤ v + c.n - 1 → (x : ℕ) → x < c.w → get_or b x 0 ≡ reached c start l₀ x v
not-taken {c} {start} {v} {l₀} {l} {b} R high x h =
    let e : min c.h (v - 1 + c.n) ≡ min c.h (v + c.n) = omega (arith, R.low) in
    R.largest x h ∙ ap (λ (y : ℕ). max_in (start + c.n) y (along c l₀ x)) e

-- place v is raised by b
pub reached-more : {c : Columns} {start v : ℕ} {l₀ l b : List ℕ} (a : ℕ) (m row : List ℕ) → ReachedOn c start l₀ v l b → ((x : ℕ) → x < c.w → get_or m x 0 ≡ reached c start l₀ x v) → v < c.h → a ≡ row_at c.order c.h v * c.w
    → length l ≡ c.w * c.h → length row ≡ length (take (a + c.w - a) (drop a l))
    → ((x : ℕ) → x < length (take (a + c.w - a) (drop a l)) → get_or row x 0 ≡ max (get_or (take (a + c.w - a) (drop a l)) x 0) (get_or m x 0))
    → ReachedOn c start l₀ (v + 1) (put_mid a (a + c.w - a) l row) m
reached-more {c} {start} {v} {l₀} {l} {b} a m row R taken high first size same raised = record {
  low = omega (arith, R.low);
  done = then-after R.done (place-put c l row v a first (v + 1) refl size (omega (arith, part)) high) (omega (arith, R.low)) (omega arith)
      (λ x u p q s t. let e : u ≡ v = omega arith in rw e (raised-at x p));
  largest = λ x h. let e : v + 1 - 1 ≡ v = omega arith in taken x h ∙ ap (λ (y : ℕ). reached c start l₀ x y) (sym e);
}
  where
    part : length (take (a + c.w - a) (drop a l)) ≡ c.w
    part = rw first (row-part (row_at c.order c.h v) c.w c.h l (row-inside c.order c.h v high) size)

    raised-at : (x : ℕ) → x < c.w → get_or row x 0 ≡ max (along c l₀ x v) (reached c start l₀ x v)
    raised-at x h = omega (arith, raised x (omega (arith, part)), taken x h, place-part c l row v a first x h, R.done.rest x v h high (λ p q. absurd (omega arith)))

pub reached-all : {c : Columns} {start end v : ℕ} {l₀ l b : List ℕ} → ReachedOn c start l₀ v l b → v ≡ end → Rewritten c start end (λ x v. max (along c l₀ x v) (reached c start l₀ x v)) l₀ l
reached-all R e = rw (← e) R.done
