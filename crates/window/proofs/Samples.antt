-- Instances of the definitions, computed.
use Rattle.std.proofs.Common.{Option, Some}
use Prim.Native.Nat.{ℕ, suc}
use mathlib.Core.Path.{◌≡◌, refl}
use mathlib.Core.Bool.{true, false}
use mathlib.Core.List.{List, [], ◌∷◌, map}
use lib.Ieee.{Float, nan, inf, binary64, add, sub, div, lt, le, is_nan, of_int, of_bits}
use lib.IntN.{pos}
use lib.ListN.{take}
use Rattle.laws.specs.Floats.{float}
use Rattle.timestamp.specs.Stamps.{saturating_sub}
use Rattle.filter.specs.Flash.{virtual_seed, seeded, min_length_met}
use Rattle.filter.specs.Claim.{cuts_in}
use Rattle.window.specs.declared.WindowOptions.{WindowOptions}
use Rattle.window.specs.declared.Window.{Window}
use Rattle.window.specs.Window.{fresh, can_hold, without_oldest, pushed_list, pushed_sum, pushed, average, tiny, capped, ratio_of, threshold_met, judged, checked, push_and_check}
use Rattle.window.specs.Calls.{WindowCall, refused, unscored, scored, clear, window_run}
use Rattle.window.specs.Claim.{from_clear_to_clear}

-- window 1, `min_content_val` 15, threshold 3
options : WindowOptions
options =
    record { adaptive_threshold = float 3; min_duration = 1000000; window_width = 1; min_content_val = float 15; initial_cut = true }

-- these scores, at stamps from t on
from : ℕ → List Float → Window → Window
from t [] s = s
from t (x ∷ xs) s = from (suc t) xs (push_and_check options s (record { micros = pos t }) x).window

ratio : Float → Float → Float → Option Float
ratio a b c = (from 0 (a ∷ b ∷ c ∷ []) fresh).last_adaptive_ratio

-- scores 1, 30, 1 give ratio 30; 0, 30, 0 give 255; 0, 10, 0 give 0
rows : (ratio (float 1) (float 30) (float 1) ≡ Some (float 30)) × (ratio (float 0) (float 30) (float 0) ≡ Some (float 255)) × (ratio (float 0) (float 10) (float 0) ≡ Some (float 0))
unfolding options from ratio fresh can_hold without_oldest pushed_list pushed_sum pushed average capped ratio_of threshold_met judged checked push_and_check virtual_seed saturating_sub seeded min_length_met add sub div lt le is_nan of_int of_bits
rows = (refl, refl, refl)

-- the test is `<`: at 1e-5 the ratio is the quotient, one step below it is 255. Of a NaN quotient it is 255, of an infinite average 0.
edges :
    (ratio_of options (float 20) (of_bits binary64 0x3EE4F8B588E368F0) ≡ float 255)
    × (ratio_of options (float 0) (of_bits binary64 0x3EE4F8B588E368F0) ≡ float 0)
    × (ratio_of options (of_bits binary64 0x3EF4F8B588E368F1) tiny ≡ float 2)
    × (ratio_of options (float 30) nan ≡ float 255)
    × (ratio_of options (float 30) (inf false) ≡ float 0)
unfolding options capped ratio_of div lt le is_nan of_int of_bits
edges = (refl, refl, refl, refl, refl)

-- The sum is not taken afresh: with 2^53 before it the 1 is rounded away, and stays so when 2^53 is gone. The places past the third keep their zeros.
four : Window
four = from 7 (float 9007199254740992 ∷ float 1 ∷ float 0 ∷ float 0 ∷ []) fresh

not-afresh :
    (four.buffer_sum ≡ float 0)
    × (take 4 four.scores ≡ float 1 ∷ float 0 ∷ float 0 ∷ float 0 ∷ [])
    × (take 4 four.stamps ≡ pos 8 ∷ pos 9 ∷ pos 10 ∷ pos 0 ∷ [])
unfolding options four from fresh can_hold without_oldest pushed_list pushed_sum pushed average capped ratio_of threshold_met judged checked push_and_check virtual_seed saturating_sub seeded min_length_met add sub div lt le is_nan of_int of_bits
not-afresh = (refl, refl, refl)

-- ---- a list of calls

at : ℕ → ℕ → WindowCall
at t x = scored (record { micros = pos t }) (float x)

-- what the calls bring, from clear to clear. The cut is the target's stamp, one call late; the next at the same distance but too early is none; after
-- the clear the window fills anew.
calls :
    map cuts_in (from_clear_to_clear (window_run options (at 0 1 ∷ unscored ∷ at 400000 30 ∷ refused ∷ at 900000 1 ∷ at 1300000 30 ∷ at 1400000 1 ∷ at 1500000 30 ∷ at 1600000 1 ∷ clear ∷ at 1700000 1 ∷ at 1800000 30 ∷ at 1900000 1 ∷ [])))
    ≡ (pos 400000 ∷ pos 1500000 ∷ []) ∷ (pos 1800000 ∷ []) ∷ []
unfolding options at fresh can_hold without_oldest pushed_list pushed_sum pushed average capped ratio_of threshold_met judged checked push_and_check virtual_seed saturating_sub seeded min_length_met add sub div lt le is_nan of_int of_bits
calls = refl
