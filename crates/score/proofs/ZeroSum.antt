-- Refusal 7 is the Rust's: all four weights are zero exactly where the sum of their sizes, as f64 rounds it, equals 0.0.
-- No sum of four sizes rounds to zero unless each is one, and a NaN or an infinity gives no zero on either side.
use mathlib.Core.Path.{◌≡◌, ◌∙◌}
use mathlib.Core.Bool.{◌&&◌}
use lib.Dec.{T}
use lib.Ieee.{Float, binary64, fits, add, eq, of_int}
use lib.Ieee.Fits.{add-fits}
use Rattle.laws.proofs.FloatTests.{is_zero, unsigned, eq-zero, add-zero, add-unsigned}
use Rattle.score.specs.declared.Components.{Components}
use Rattle.laws.specs.Floats.{float}
use Rattle.score.specs.Floats.{abs_of}
use Rattle.score.specs.Scores.{sum_abs}
use Rattle.score.specs.Settings.{all_zero}
use Rattle.score.proofs.Sizes.{abs-fits, abs-unsigned, abs-is_zero}

-- four values that an f64 holds
pub record Held (w : Components) : Type 0 where
  pub hue : T (fits binary64 w.delta_hue)
  pub sat : T (fits binary64 w.delta_sat)
  pub lum : T (fits binary64 w.delta_lum)
  pub edges : T (fits binary64 w.delta_edges)

-- one more size
more : (x y : Float) → T (unsigned x) → T (fits binary64 x) → T (fits binary64 y) → is_zero (add binary64 x (abs_of y)) ≡ (is_zero x && is_zero y)
more x y u f g = add-zero x (abs_of y) u (abs-unsigned y) f (abs-fits y g) ∙ rw (abs-is_zero y)

pub zero-sum : (w : Components) → Held w → eq (sum_abs w) (float 0) ≡ all_zero w
unfolding sum_abs all_zero of_int
zero-sum w p =
    let h = abs_of w.delta_hue in
    let hs = add binary64 h (abs_of w.delta_sat) in
    let hsl = add binary64 hs (abs_of w.delta_lum) in
    let u = add-unsigned h (abs_of w.delta_sat) (abs-unsigned w.delta_hue) (abs-unsigned w.delta_sat) in
    let v = add-unsigned hs (abs_of w.delta_lum) u (abs-unsigned w.delta_lum) in
    rw (eq-zero (add binary64 hsl (abs_of w.delta_edges)), eq-zero w.delta_hue, eq-zero w.delta_sat, eq-zero w.delta_lum, eq-zero w.delta_edges)
    (rw (
      more hsl w.delta_edges v (add-fits binary64 hs (abs_of w.delta_lum)) p.edges,
      more hs w.delta_lum u (add-fits binary64 h (abs_of w.delta_sat)) p.lum,
      more h w.delta_sat (abs-unsigned w.delta_hue) (abs-fits w.delta_hue p.hue) p.sat,
      abs-is_zero w.delta_hue,
    ))
