-- Instances, computed: four frames of one pixel, as calls under the defaults, with a refused call among them, and under a light plan.
use Rattle.std.proofs.Common.{None, Some}
use mathlib.Core.Path.{◌≡◌, refl}
use mathlib.Core.Bool.{Bool, true, false}
use mathlib.Core.List.{List, [], ◌∷◌, map}
use Prim.Native.Nat.{ℕ}
use lib.IntN.{pos}
use lib.Ieee.{add, mul, div, le, ne, of_int, is_nan}
use Rattle.laws.specs.Lists.{tabulate, sum}
use Rattle.timestamp.specs.declared.Timestamp.{Timestamp}
use Rattle.timestamp.specs.Stamps.{distance, duration_since, saturating_sub}
use Rattle.frame.specs.Checks.{plane_refusal, luma_refusal}
use Rattle.arch_planes.specs.Difference.{sum_abs_diff, mean_of}
use Rattle.arch_planes.specs.Packed.{packed}
use Rattle.canny_marks.specs.Median.{insert, sort, median_of}
use Rattle.score.specs.Scores.{sum_abs, weighed, score_of, edges_enabled}
use Rattle.score.specs.Settings.{settings_refusal, any_too_heavy, too_heavy, all_zero}
use Rattle.stream.specs.Stream.{components_of, is_scored, next_stream, memory_refusal}
use Rattle.scoring.specs.Planes.{luma_frame}
use Rattle.scoring.specs.Sums.{frame_sums}
use Rattle.filter.specs.Calls.{FilterCall, refused, frame}
use Rattle.filter.specs.Claim.{answers}
use Rattle.filter.specs.Flash.{virtual_seed, seeded, min_length_met, num_merged, merge_held, merge_free, filter_merge, flash_filter}
use Rattle.light_plan.specs.Rows.{row, has, rows_with, any_below, any_reversed, rows_refusal, threshold_at}
use Rattle.light_plan.specs.Plan.{plan_of}
use Rattle.content.specs.declared.Options.{Options}
use Rattle.content.specs.Options.{with_plan, defaults, options_refusal}
use Rattle.content.specs.State.{bad_state}
use Rattle.content.specs.Step.{stepped}
use Rattle.frame_call.specs.Call.{Call, luma, call_refusal, accepted, pictured}
use Rattle.content_claim.specs.Claim.{frame_score, view_of, content_run, with_cut}

at : ℕ → Timestamp
at n = record { micros = pos n }

-- a frame of one pixel, after one whose value was `before`
pixel : ℕ → ℕ → ℕ → Call
pixel stamp value before =
    luma (value ∷ []) 1 1 1 (at stamp) (record { store = 0 ∷ 0 ∷ before ∷ 0 ∷ []; scratch = tabulate 9 (λ _. 0); magnitudes = pos 0 ∷ [] })

-- without a store
short : ℕ → ℕ → Call
short stamp value = luma (value ∷ []) 1 1 1 (at stamp) (record { store = []; scratch = tabulate 9 (λ _. 0); magnitudes = pos 0 ∷ [] })

lines : List Call
lines = pixel 0 0 0 ∷ pixel 400000 200 0 ∷ short 500000 0 ∷ pixel 900000 0 200 ∷ pixel 2000000 0 0 ∷ []

seen : ℕ → Bool → FilterCall
seen stamp above = frame 1 1 (record { stamp = at stamp; above = above })

views : map (view_of defaults) lines ≡ seen 0 false ∷ seen 400000 true ∷ refused ∷ seen 900000 true ∷ seen 2000000 false ∷ []
unfolding tabulate sum sum_abs_diff mean_of packed at pixel short lines seen plane_refusal luma_refusal memory_refusal call_refusal frame_score sum_abs weighed score_of edges_enabled components_of luma_frame frame_sums add mul div le ne of_int
views = refl

cuts : answers (map (with_cut defaults) (content_run defaults lines)) ≡ None ∷ Some (at 400000) ∷ None ∷ None ∷ None ∷ []
unfolding tabulate sum sum_abs_diff mean_of packed at pixel short lines plane_refusal luma_refusal memory_refusal sum_abs weighed score_of edges_enabled components_of luma_frame frame_sums add mul div le ne of_int is_nan settings_refusal any_too_heavy too_heavy all_zero rows_refusal bad_state call_refusal accepted pictured stepped is_scored next_stream distance duration_since saturating_sub virtual_seed seeded min_length_met num_merged merge_held merge_free filter_merge flash_filter
cuts = refl

-- the defaults with a plan: dim frames, whose median is below 100, are measured by 60, and others by 80
planned : Options
planned = with_plan defaults (plan_of (row 0 99 60 ∷ row 100 255 80 ∷ []))

planned_accepted : options_refusal planned ≡ 0
unfolding tabulate planned is_nan of_int le settings_refusal any_too_heavy too_heavy all_zero has rows_with any_below any_reversed rows_refusal
planned_accepted = refl

-- the second frame and the last but one have one score, 200 / 3. The dim one of them is above, and the bright one is not.
planned_views : map (view_of planned) lines ≡ seen 0 false ∷ seen 400000 false ∷ refused ∷ seen 900000 true ∷ seen 2000000 false ∷ []
unfolding tabulate sum sum_abs_diff mean_of packed at pixel short lines seen planned plane_refusal luma_refusal memory_refusal call_refusal frame_score sum_abs weighed score_of edges_enabled components_of luma_frame frame_sums add mul div le ne of_int insert sort median_of has threshold_at
planned_views = refl

one_score : frame_score planned 1 1 (luma_frame (200 ∷ []) 1 1 1) (0 ∷ 0 ∷ 0 ∷ 0 ∷ [])
    ≡ frame_score planned 1 1 (luma_frame (0 ∷ []) 1 1 1) (0 ∷ 0 ∷ 200 ∷ 0 ∷ [])
unfolding tabulate sum sum_abs_diff mean_of packed planned frame_score sum_abs weighed score_of edges_enabled components_of luma_frame frame_sums add mul div ne of_int
one_score = refl
