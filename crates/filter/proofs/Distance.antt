-- Scored frames in Merge: the cuts keep the distance, where the stamps never fall. Assumes nothing.
use Rattle.std.proofs.Common.{None, Option, Some}
use Prim.Native.Nat.{ℕ}
use mathlib.Core.Path.{◌≡◌, refl}
use mathlib.Core.Bool.{Bool, true, false, not, ◌&&◌}
use mathlib.Core.List.{List, [], ◌∷◌}
use lib.Dec.{leb}
use lib.IntN.{ℤ, pos, ◌+ℤ◌}
use lib.Signed.{◌≤ℤ◌, ≤ℤ_refl}
use Rattle.timestamp.specs.declared.Timestamp.{Timestamp}
use Rattle.timestamp.specs.Stamps.{distance, duration_since}
use native.Mathlib.Omega.{arith}
use Rattle.std.proofs.lemmas.Int.{ints}
use Rattle.filter.specs.declared.FilterMode.TheVariants.{Merge}
use Rattle.filter.specs.declared.FilterOptions.{FilterOptions}
use Rattle.filter.specs.declared.Filter.{Filter}
use Rattle.filter.specs.declared.FilterStep.{FilterStep}
use Rattle.filter.specs.Flash.{fresh, seeded, min_length_met, num_merged, cut_if, advanced, merge_held, merge_free, filter_merge, flash_filter}
use Rattle.filter.specs.Calls.{Frame}
use Rattle.laws.specs.Lists.{All}
use Rattle.filter.specs.Claim.{KeepsDistance, NeverFall, stamps, cuts_in, Merged}
use Rattle.filter.proofs.Frames.{answers_from, cuts_from, Chain, chain-down, chain-keeps}
use Rattle.laws.proofs.Bools.{and-true}

abbrev counting : Timestamp → Bool → Bool → Option Timestamp → Filter
counting t e b q = record { last_above = Some t; merge_enabled = e; merge_triggered = b; merge_start = q }

-- what the next cut is past by the minimum: the start of what is being merged, else the last stamp above
abbrev floor : Bool → Option Timestamp → Timestamp → ℤ
floor false q t = t.micros
floor true None t = t.micros
floor true (Some u) t = u.micros

-- what is being merged has a start, which is not past the last stamp above
abbrev Held : Bool → Option Timestamp → Timestamp → Type 0
Held false q t = Unit {0}
Held true None t = ⊥
Held true (Some u) t = u.micros ≤ℤ t.micros

abbrev AllFrom : Timestamp → List Frame → Type 0
AllFrom t fs = All (λ (u : ℤ). t.micros ≤ℤ u) (stamps fs)

module _ (o : FilterOptions) where
  abbrev d : ℕ
  d = o.min_duration

  -- the cuts of a step and of what follows it
  abbrev after : FilterStep → List Frame → List ℤ
  after r fs = cuts_in (r.cut ∷ answers_from o r.filter fs)

  Apart : List Frame → Type 0
  Apart fs = (t : Timestamp) (e b : Bool) (q : Option Timestamp) → Held b q t → AllFrom t fs → Chain d (floor b q t) (cuts_from o (counting t e b q) fs)

  -- merged for the minimum
  merged-for : (t u : Timestamp) → u.micros ≤ℤ t.micros → leb d (num_merged t (Some u)) ≡ true → (u.micros +ℤ pos d) ≤ℤ t.micros
  unfolding num_merged duration_since distance
  merged-for t u h e = grind (arith, ints)

  module _ (fs : List Frame) (ih : Apart fs) (t ts : Timestamp) (low : t.micros ≤ℤ ts.micros) (all : AllFrom t fs) (all' : AllFrom ts fs) where
    free_step : (above met e : Bool) (q : Option Timestamp) → min_length_met o t ts ≡ met
        → Chain d t.micros (after (merge_free (counting t e false q) (advanced t ts above) ts above met) fs)
    unfolding Apart min_length_met merge_free
    free_step false met e q m = ih t e false q tt all
    free_step true true e q m = (grind (arith, ints, m), ih ts true false q tt all')
    free_step true false true q m = chain-down d (cuts_from o (counting ts true true (Some ts)) fs) low (ih ts true true (Some ts) (≤ℤ_refl ts.micros) all')
    free_step true false false q m = chain-down d (cuts_from o (counting ts false false q) fs) low (ih ts false false q tt all')

    held-step : (above met e : Bool) (u : Timestamp) → u.micros ≤ℤ t.micros
        → Chain d u.micros (after (merge_held o (counting t e true (Some u)) (advanced t ts above) above met) fs)
    unfolding Apart merge_held
    held-step true met e u h = ih ts e true (Some u) (omega (arith, ints)) all'
    held-step false met e u h = by-release (met && leb d (num_merged t (Some u))) refl
      where
        by-release : (b : Bool) → (met && leb d (num_merged t (Some u))) ≡ b
            → Chain d u.micros (after (record { filter = counting t e (not b) (Some u); cut = cut_if b t }) fs)
        by-release true m = (merged-for t u h (and-true met (leb d (num_merged t (Some u))) m).1, ih t e false (Some u) tt all)
        by-release false m = ih t e true (Some u) h all

  -- ---- up to the first cut, where what is counted from may be any stamp, or none yet

  abbrev before-cuts : Option Timestamp → Option Timestamp → Filter
  before-cuts l q = record { last_above = l; merge_enabled = false; merge_triggered = false; merge_start = q }

  Early : List Frame → Type 0
  Early fs = (l q : Option Timestamp) → KeepsDistance d (cuts_from o (before-cuts l q) fs)

  early-step : (l q : Option Timestamp) (last ts : Timestamp) (fs : List Frame) (above met : Bool) → AllFrom ts fs → Apart fs → Early fs
      → KeepsDistance d (after (merge_free (before-cuts l q) (advanced last ts above) ts above met) fs)
  unfolding Early Apart merge_free
  early-step l q last ts fs false met all apart ih = ih (Some last) q
  early-step l q last ts fs true true all apart ih = chain-keeps d ts.micros (cuts_from o (counting ts true false q) fs) (apart ts true false q tt all)
  early-step l q last ts fs true false all apart ih = ih (Some ts) q

  module _ (mode : o.filter_mode ≡ Merge) where
    step_is : (φ : Filter) (f : Frame) → let last : Timestamp = seeded o φ.last_above f.stamp in
        flash_filter o φ f.stamp f.above ≡ filter_merge o φ last f.stamp f.above (min_length_met o last f.stamp)
    unfolding flash_filter
    step_is φ f = rw mode

    apart : (fs : List Frame) → NeverFall (stamps fs) → Apart fs
    unfolding Apart filter_merge seeded
    apart [] n t e b q h all = tt
    apart (f ∷ fs) n t e false q h all =
        rw (step_is (counting t e false q) f) (free_step fs (apart fs n.1) t f.stamp all.0 all.1 n.0 f.above (min_length_met o t f.stamp) e q refl)
    apart (f ∷ fs) n t e true None h all = absurd h
    apart (f ∷ fs) n t e true (Some u) h all =
        rw (step_is (counting t e true (Some u)) f) (held-step fs (apart fs n.1) t f.stamp all.0 all.1 n.0 f.above (min_length_met o t f.stamp) e u h)

    early : (fs : List Frame) → NeverFall (stamps fs) → Early fs
    unfolding Early filter_merge
    early [] n l q = tt
    early (f ∷ fs) n l q =
        let last = seeded o l f.stamp in
        rw (step_is (before-cuts l q) f) (early-step l q last f.stamp fs f.above (min_length_met o last f.stamp) n.0 (apart fs n.1) (early fs n.1))

    pub merged_keeps : (fs : List Frame) → Merged o fs (cuts_from o fresh fs)
    unfolding Early
    merged_keeps fs = record { distance = λ n. early fs n None None }
