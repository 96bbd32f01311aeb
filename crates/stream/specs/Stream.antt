-- What both detectors keep of the stream of frames: whether there is a previous frame, its width and height, and the last score with its
-- components (RULES 6.5, 8.3).
use Rattle.std.specs.Prelude.{◌≡◌, Bool, true, false, cond, ◌&&◌, [], ◌∷◌, ℕ, ◌+◌, ◌*◌, max, eqb, ltb, Float, None, Option, Some}
use Rattle.laws.specs.Floats.{float}
use Rattle.refusal.specs.Refusal.{first_that}
use Rattle.arch_planes.specs.Difference.{mean_of}
use Rattle.score.specs.declared.Components.{Components}
use Rattle.score.specs.Scores.{components, score_of}
use Rattle.stream.specs.declared.Stream.{Stream}
use Rattle.stream.specs.declared.Sums.{Sums}

-- no sums: all five numbers are 0. They are those of a refused call, of `clear`, and of a frame that has no earlier frame in its stretch
-- (RULES 4.5).
abbrev pub no_sums : Sums
no_sums = record { hue = 0; saturation = 0; luma = 0; edges = 0; count = 0 }

-- the components of a frame are mean differences: each whole sum over the number of pixels, 0.0 where there are none (RULES 4.2, 4.3)
unfoldable pub components_of : Sums → Components
components_of s =
    components (mean_of s.hue s.count) (mean_of s.saturation s.count) (mean_of s.luma s.count) (mean_of s.edges s.count)

-- before the first frame of a stretch: no previous frame, no last score and no last components, and this size
abbrev pub fresh_stream : ℕ → ℕ → Stream
fresh_stream w h = record { has_previous = false; last_score = None; last_components = None; width = w; height = h }

-- a frame of this size is scored: there is a previous frame of the same width and height (RULES 6.5)
unfoldable pub is_scored : Stream → ℕ → ℕ → Bool
is_scored s w h = eqb s.width w && eqb s.height h && s.has_previous

-- after an accepted frame with these sums of differences: a scored frame has a score and components; the first frame of a stretch has neither
-- (RULES 6.5, 8.5)
unfoldable pub next_stream : Stream → ℕ → ℕ → Components → Sums → Stream
next_stream s w h weights sums =
    let deltas : Components = components_of sums in
    let score : Option Float = cond (is_scored s w h) (Some (score_of deltas weights)) None in
    let shown : Option Components = cond (is_scored s w h) (Some deltas) None in
    record { has_previous = true; last_score = score; last_components = shown; width = w; height = h }

-- the components that an answer shows: four times 0.0 where there are none (RULES 8.4)
abbrev pub components_shown : Option Components → Components
components_shown None = components (float 0) (float 0) (float 0) (float 0)
components_shown (Some c) = c

-- What the five whole numbers of an answer say of its components and its score, under these weights (RULES 6.8): a reader who has the answer and
-- the weights works out both again.
pub record FromSums (weights : Components) (score : Option Float) (deltas : Components) (sums : Sums) : Type 0 where
  -- the components are the four sums over the count
  pub means : deltas ≡ components_of sums
  -- a score is the score of these components
  pub scored : (x : Float) → score ≡ Some x → x ≡ score_of (components_of sums) weights
  -- where there is no score all five are 0
  pub unscored : score ≡ None → sums ≡ no_sums

-- The first of 12, 13 and 14 that holds, or 0: for n pixels the store has less than 4n bytes (12), the scratch less than
-- 7n + 2 × max(width, height) bytes (13), or the magnitudes are fewer than n numbers (14). These lengths hold with edges off too (RULES 12.1).
unfoldable pub memory_refusal : (store scratch magnitudes width height : ℕ) → ℕ
memory_refusal store scratch magnitudes w h =
    first_that ((ltb store (4 * (w * h)), 12) ∷ (ltb scratch (7 * (w * h) + 2 * max w h), 13) ∷ (ltb magnitudes (w * h), 14) ∷ [])
