-- THE ONE-ROW THEOREM: under accepted settings with the plan of the one row `0,255,t`, every list of calls on planes of bytes brings what it brings
-- under the threshold t without a plan. Assumes nothing else.
use Rattle.std.proofs.Common.{◌≡◌, refl, sym, ap, subst, ◌∙◌, arith, Bool, true, false, cond, List, [], ◌∷◌, map, ℕ, zero, suc, ◌+◌, ◌*◌, ◌/◌, ◌%◌, ◌<◌, eqb, get_or, Float, None, Option, Some}
use lib.Ieee.{Format, binary64, prec, low, le, of_int, is_nan, round, units, odd, inf}
use Rattle.laws.specs.Lists.{tabulate, All}
use Rattle.laws.specs.Floats.{float}
use Rattle.laws.proofs.Tab.{length-tabulate, get_d_tabulate}
use Rattle.timestamp.specs.declared.Timestamp.{Timestamp}
use Rattle.refusal.specs.Refusal.{first_that}
use Rattle.arch_hsv.specs.Hsv.{value, byte_at}
use Rattle.arch_planes.specs.Packed.{packed}
use Rattle.canny_marks.specs.Median.{median_of}
use Rattle.canny_marks.proofs.Sorted.{median_below}
use Rattle.score.specs.Settings.{settings_refusal, any_too_heavy, too_heavy, all_zero}
use Rattle.stream.specs.declared.Stream.{Stream}
use Rattle.scoring.specs.Planes.{Planes, luma_frame, bgr_frame, hsv_frame}
use Rattle.light_plan.specs.Rows.{rows_refusal}
use Rattle.light_plan.proofs.Single.{one_row}
use Rattle.filter.specs.declared.Filter.{Filter}
use Rattle.filter.specs.Flash.{flash_filter}
use Rattle.frame_call.specs.Call.{Memory, Call, luma, bgr, hsv, clear, Outcome, frame_number, accepted, pictured, answered_by}
use Rattle.frame_call.specs.Run.{MadeCall, run_from}
use Rattle.content.specs.declared.Options.{Options}
use Rattle.content.specs.declared.Detector.{Detector}
use Rattle.content.specs.Options.{defaults, filter_options, picture_options, or_else, options_refusal}
use Rattle.content.specs.State.{Answer, fresh, bad_state, refused_answer, cleared_answer}
use Rattle.content.specs.Step.{filter_step, stepped, called}
use Rattle.content_claim.specs.OneRow.{with_one_row, at_threshold, held, brought_with, with_settings, Bytes, BytesIn, OneRowClaim}
use Rattle.content_claim.proofs.Good.{Good, fresh-good, not-bad}
use Rattle.content_claim.proofs.Theorem.{stays}

-- ---- a whole number as f64 is a number

odd_number : (d : ℕ) (s : Bool) (q k l : ℕ) → is_nan (odd d s q k l) ≡ false
unfolding is_nan odd
odd_number d s zero k l = refl
odd_number d s (suc q) k l = refl

units_number : (f : Format) (s : Bool) (q k : ℕ) → is_nan (units f s q k) ≡ false
unfolding is_nan units
units_number f s q k = go _ _ (odd_number (suc (prec f)) s q k (low f))
  where
    go : (b : Bool) (x : Float) → is_nan x ≡ false → is_nan (cond b x (inf s)) ≡ false
    go true x e = e
    go false x e = refl

whole_number : (t : ℕ) → is_nan (float t) ≡ false
unfolding of_int round
whole_number t = units_number binary64 false _ _

-- ---- the settings with the threshold are accepted

none_of_four : (a b c n : Bool) (plan : ℕ) → or_else (first_that ((a, 6) ∷ ((b, 7) ∷ ((c, 8) ∷ ((n, 9) ∷ []))))) plan ≡ 0
    → first_that ((a, 6) ∷ ((b, 7) ∷ ((c, 8) ∷ ((false, 9) ∷ [])))) ≡ 0
none_of_four true b c n plan e = absurd (omega arith)
none_of_four false true c n plan e = absurd (omega arith)
none_of_four false false true n plan e = absurd (omega arith)
none_of_four false false false n plan e = refl

pub threshold_accepted : (o : Options) (t : ℕ) → options_refusal (with_one_row o t) ≡ 0 → options_refusal (at_threshold o t) ≡ 0
unfolding settings_refusal rows_refusal
threshold_accepted o t ok = rw (whole_number t, none_of_four _ _ _ _ _ ok) refl

-- ---- the luma of a frame has bytes

byte_anywhere : (l : List ℕ) → Bytes l → (i : ℕ) → get_or l i 0 < 256
byte_anywhere [] b i = omega arith
byte_anywhere (x ∷ l) b zero = b 0 (omega arith)
byte_anywhere (x ∷ l) b (suc i) = byte_anywhere l (λ j h. b (suc j) (omega arith)) i

tabulated : (n : ℕ) (f : ℕ → ℕ) → ((i : ℕ) → f i < 256) → Bytes (tabulate n f)
tabulated n f each i h = rw (get_d_tabulate n f 0 i (omega (arith, length-tabulate n f))) (each i)

packed_bytes : (s : List ℕ) (w h stride : ℕ) → Bytes s → Bytes (packed s w h stride)
unfolding packed
packed_bytes s w h stride b = tabulated (w * h) _ (λ i. byte_anywhere s b _)

value_bytes : (s : List ℕ) (w h stride : ℕ) → Bytes s → Bytes (bgr_frame s w h stride).luma
unfolding bgr_frame value
value_bytes s w h stride b = tabulated (w * h) _ each
  where
    each : (i : ℕ) → value (byte_at s stride (i % w) (i / w) 0) (byte_at s stride (i % w) (i / w) 1) (byte_at s stride (i % w) (i / w) 2) < 256
    each i =
        let blue = byte_anywhere s b (i / w * stride + (3 * (i % w) + 0)) in
        let green = byte_anywhere s b (i / w * stride + (3 * (i % w) + 1)) in
        let red = byte_anywhere s b (i / w * stride + (3 * (i % w) + 2)) in
        omega arith

-- ---- a call on two states that differ in their settings alone

module _ (o : Options) (t : ℕ) where
  -- with a plan and with the threshold
  abbrev P : Options
  P = with_one_row o t

  abbrev T : Options
  T = at_threshold o t

  step-same : (φ : Filter) (ts : Timestamp) (x : Option Float) (plane : List ℕ) → Bytes plane
      → filter_step T φ ts x None ≡ filter_step P φ ts x (Some (median_of plane))
  step-same φ ts None plane b = refl
  step-same φ ts (Some x) plane b =
      ap (λ (n : ℕ). flash_filter (filter_options P) φ ts (le (float n) x)) (sym ((one_row t).threshold (median_of plane) (median_below plane b)))

  module _ (s : Stream) (φ : Filter) where
    abbrev with_plan : Detector
    with_plan = record { options = P; stream = s; filter = φ }

    abbrev with_threshold : Detector
    with_threshold = held T with_plan

    module _ (u w h : ℕ) (p : Planes) (ts : Timestamp) (m : Memory) where
      abbrev framed : Detector → Outcome Answer
      framed d =
          let r = pictured d.stream (picture_options d.options) false u w h p m in
          record { answer = answered_by (stepped d ts) (refused_answer d) r.answer; store = r.store }

      frame-same : Bytes p.luma → framed with_threshold ≡ brought_with T (framed with_plan)
      unfolding pictured accepted stepped
      frame-same b = by_zero (eqb (frame_number false u w h m) 0) refl
        where
          by_zero : (z : Bool) → eqb (frame_number false u w h m) 0 ≡ z → framed with_threshold ≡ brought_with T (framed with_plan)
          by_zero true e = rw (e, step-same φ ts _ p.luma b) refl
          by_zero false e = rw (e, e) refl

    call-same : (c : Call) → BytesIn c → bad_state with_plan ≡ false → bad_state with_threshold ≡ false
        → called with_threshold c ≡ brought_with T (called with_plan c)
    unfolding cleared_answer luma_frame hsv_frame
    call-same (luma plane w h stride ts m) b x y = rw (x, y) (frame-same _ w h (luma_frame plane w h stride) ts m (packed_bytes plane w h stride b))
    call-same (bgr pixels w h stride ts m) b x y = rw (x, y) (frame-same _ w h (bgr_frame pixels w h stride) ts m (value_bytes pixels w h stride b))
    call-same (hsv hs ss vs w h stride ts m) b x y = rw (x, y) (frame-same _ w h (hsv_frame hs ss vs w h stride) ts m (packed_bytes vs w h stride b))
    call-same clear b x y = rw (x, y) refl

  -- ---- a list of calls

  module _ (ok : options_refusal P ≡ 0) where
    abbrev run : Detector → List Call → List (MadeCall Answer)
    run d cs = run_from called (λ (a : Answer). a.detector) d cs

    one : (d : Detector) (c : Call) → Good P d → BytesIn c → called (held T d) c ≡ brought_with T (called d c)
    one d c g b =
        let good : (x : Options) → Good x (held x d) = λ x. record { options = refl; sides = g.sides; filter = g.filter } in
        subst (λ (x : Options). called (held T d) c ≡ brought_with T (called (held x d) c)) (sym g.options)
        (call-same d.stream d.filter c b (not-bad P ok (held P d) (good P)) (not-bad T (threshold_accepted o t ok) (held T d) (good T)))

    runs-same : (d : Detector) → Good P d → (cs : List Call) → All BytesIn cs → run (held T d) cs ≡ map (with_settings T) (run d cs)
    runs-same d g [] bs = refl
    runs-same d g (c ∷ cs) bs =
        ap (λ (r : Outcome Answer). record { call = c; outcome = r } ∷ run r.answer.detector cs) (one d c g bs.0)
        ∙ ap (λ xs. record { call = c; outcome = brought_with T (called d c) } ∷ xs)
        (runs-same (called d c).answer.detector (stays P ok d c g) cs bs.1)

-- the theorem
pub one_row_claim : (o : Options) (t : ℕ) → options_refusal (with_one_row o t) ≡ 0 → (calls : List Call) → All BytesIn calls
    → OneRowClaim o t calls
one_row_claim o t ok calls bytes = record {
  accepted = threshold_accepted o t ok;
  same = runs-same o t ok (fresh (with_one_row o t)) (fresh-good (with_one_row o t)) calls bytes;
}

-- the defaults are accepted with any such row
pub defaults-accepted-too : (t : ℕ) → options_refusal (with_one_row defaults t) ≡ 0
unfolding settings_refusal any_too_heavy too_heavy all_zero le of_int is_nan
defaults-accepted-too t = (one_row t).accepted
