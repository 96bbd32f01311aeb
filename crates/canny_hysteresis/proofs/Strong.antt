-- The plane of strong pixels: its length, and its bytes.
use mathlib.Core.Path.{◌≡◌, refl, sym, ◌∙◌}
use mathlib.Core.Bool.{Bool, true, false, cond}
use mathlib.Core.Logic.{◌⊎◌, inl, inr}
use mathlib.Core.List.{List}
use Prim.Native.Nat.{ℕ, ◌-◌}
use native.Mathlib.Omega.{arith}
use lib.Dec.{eqb}
use lib.ListN.{length, get_or, length-map, get_or-map}
use borrow.Author.Tests.{eq-eqb, eqb-true}
use Rattle.laws.specs.Steps.{steps}
use Rattle.laws.proofs.Stepped.{steps-keep}
use Rattle.canny_hysteresis.specs.Sweeps.{place, visit, upper, lower, rising, falling, sweep_row, sweep, round, whitened, strong_pixels}
use Rattle.canny_hysteresis.proofs.Visits.{length-visit}

length-row : (beside : ℕ → ℕ → ℕ → List ℕ) (order : ℕ → ℕ → ℕ) (w y : ℕ) (s : List ℕ) → length (sweep_row beside order w y s) ≡ length s
unfolding sweep_row
length-row beside order w y s =
    steps-keep length (λ i. visit (place w (order w i) y) (beside w (order w i) y))
    (λ i s. length-visit (place w (order w i) y) (beside w (order w i) y) s) (w - 2) s

length-sweep : (beside : ℕ → ℕ → ℕ → List ℕ) (order : ℕ → ℕ → ℕ) (w h : ℕ) (s : List ℕ) → length (sweep beside order w h s) ≡ length s
unfolding sweep
length-sweep beside order w h s =
    steps-keep length (λ j. sweep_row beside order w (order h j)) (λ j s. length-row beside order w (order h j) s) (h - 2) s

length-round : (w h : ℕ) (s : List ℕ) → length (round w h s) ≡ length s
unfolding round
length-round w h s = length-sweep lower falling w h (sweep upper rising w h s) ∙ length-sweep upper rising w h s

pub length-strong : (w h : ℕ) (s : List ℕ) → length (strong_pixels w h s) ≡ length s
unfolding strong_pixels
length-strong w h s =
    length-map (steps 2 (λ i. round w h) s) whitened ∙ steps-keep length (λ i. round w h) (λ i s. length-round w h s) 2 s

module _ (w h : ℕ) (s : List ℕ) (i : ℕ) where
  -- the class at place i after the sweeps
  abbrev swept : ℕ
  swept = get_or (steps 2 (λ i. round w h) s) i 0

  byte_at : get_or (strong_pixels w h s) i 0 ≡ whitened swept
  unfolding strong_pixels
  byte_at = get_or-map whitened (steps 2 (λ i. round w h) s) i 0

  -- a byte is 0 or 255, and 255 exactly at a strong pixel
  pub strong-bytes : (get_or (strong_pixels w h s) i 0 ≡ 0) ⊎ (get_or (strong_pixels w h s) i 0 ≡ 255)
  strong-bytes = rw byte_at (go (eqb swept 2))
    where
      go : (t : Bool) → (◌≡◌ {A = ℕ} (cond t 255 0) 0) ⊎ (◌≡◌ {A = ℕ} (cond t 255 0) 255)
      go true = inr refl
      go false = inl refl

  pub strong-here : swept ≡ 2 → get_or (strong_pixels w h s) i 0 ≡ 255
  strong-here e = byte_at ∙ rw (eq-eqb swept 2 e)

  pub only-strong : get_or (strong_pixels w h s) i 0 ≡ 255 → swept ≡ 2
  only-strong e = go (eqb swept 2) refl (sym byte_at ∙ e)
    where
      go : (t : Bool) → eqb swept 2 ≡ t → ◌≡◌ {A = ℕ} (cond t 255 0) 255 → swept ≡ 2
      go true p q = eqb-true swept 2 p
      go false p q = absurd (omega arith)
