-- From clear to clear the cuts keep the distance, whatever the clock does. Assumes nothing.
use Rattle.std.proofs.Common.{None, Option, Some}
use Prim.Native.Nat.{ℕ}
use mathlib.Core.Path.{◌≡◌, refl}
use mathlib.Core.Bool.{Bool, true, false, cond, ◌&&◌}
use mathlib.Core.List.{List, [], ◌∷◌}
use lib.Ieee.{Float}
use lib.IntN.{ℤ}
use native.Mathlib.Omega.{arith}
use Rattle.std.proofs.lemmas.Int.{ints}
use Rattle.timestamp.specs.declared.Timestamp.{Timestamp}
use Rattle.filter.specs.Flash.{seeded, min_length_met, cut_if}
use Rattle.laws.specs.Lists.{All}
use Rattle.filter.specs.Claim.{KeepsDistance, cuts_in}
use Rattle.filter.proofs.Frames.{Chain, chain-keeps, chain-distance}
use Rattle.laws.proofs.Bools.{and-true}
use Rattle.window.specs.declared.WindowOptions.{WindowOptions}
use Rattle.window.specs.declared.Window.{Window}
use Rattle.window.specs.declared.WindowStep.{WindowStep}
use Rattle.window.specs.Window.{fresh, unchanged, others, can_hold, is_full, pushed, target_stamp, target_score, average, ratio_of, threshold_met, suppressing, judged, checked, push_and_check}
use Rattle.window.specs.Calls.{WindowCall, refused, unscored, scored, clear, window_run_from, window_run}
use Rattle.window.specs.Claim.{joined_part, from_clear_to_clear, PartKeeps, PartsHold}

module _ (o : WindowOptions) where
  abbrev d : ℕ
  d = o.min_duration

  -- the cuts that may follow, by what the distance is counted from
  abbrev Counted : Option Timestamp → List ℤ → Type 0
  Counted None cs = KeepsDistance d cs
  Counted (Some t) cs = Chain d t.micros cs

  counted_none : (last : Option Timestamp) → Counted last []
  counted_none None = tt
  counted_none (Some t) = tt

  -- what follows a step may follow, with the step's answer before it, what was before the step
  abbrev Goes : Option Timestamp → WindowStep → Type 0
  Goes last r = (rest : List (Option Timestamp)) → Counted r.window.last_cut_ts (cuts_in rest) → Counted last (cuts_in (r.cut ∷ rest))

  -- ---- a step

  module _ (ts : Timestamp) (above : Bool) (rest : List (Option Timestamp)) where
    by-cuts : (last : Option Timestamp) → let from : Timestamp = seeded (suppressing o) last ts in
        (b : Bool) → (above && min_length_met (suppressing o) from ts) ≡ b
        → Counted (Some (cond b ts from)) (cuts_in rest) → Counted last (cuts_in (cut_if b ts ∷ rest))
    unfolding seeded min_length_met
    by-cuts None true e k = chain-keeps d ts.micros (cuts_in rest) k
    by-cuts None false e k = chain-distance d (seeded (suppressing o) None ts).micros (cuts_in rest) k
    by-cuts (Some t) true e k =
        let met = (and-true above (min_length_met (suppressing o) t ts) e).1 in
        (grind (arith, ints, met), k)
    by-cuts (Some t) false e k = k

  judged-goes : (s : Window) → Goes s.last_cut_ts (judged o s)
  unfolding judged
  judged-goes s rest k =
      let target = target_score o s in
      let met = threshold_met o target (ratio_of o target (average o s.buffer_sum target)) in
      by-cuts (target_stamp o s) met rest s.last_cut_ts _ refl k

  either : (last : Option Timestamp) (b : Bool) (p q : WindowStep) → Goes last p → Goes last q → Goes last (cond b p q)
  either last true p q h k = h
  either last false p q h k = k

  push_goes : (s : Window) (ts : Timestamp) (x : Float) → Goes s.last_cut_ts (push_and_check o s ts x)
  unfolding push_and_check checked pushed
  push_goes s ts x =
      let p = pushed (others o) s ts x in
      let last = s.last_cut_ts in
      let full : Goes last (checked o p) = either last (is_full (others o) p) (judged o p) (unchanged p) (judged-goes p) (λ rest k. k) in
      either last (can_hold o s.count) (checked o p) (unchanged s) full (λ rest k. k)

  -- ---- the parts of a run: the first counts from what the state has, each other from nothing

  abbrev From : Option Timestamp → List (List (Option Timestamp)) → Type 0
  From last [] = Unit {0}
  From last (p ∷ ps) = Counted last (cuts_in p) × All (PartKeeps o) ps

  from-joined : (last : Option Timestamp) (r : WindowStep) (ps : List (List (Option Timestamp))) → Goes last r → From r.window.last_cut_ts ps → From last (joined_part r.cut ps)
  from-joined last r [] g k = (g [] (counted_none r.window.last_cut_ts), tt)
  from-joined last r (p ∷ ps) g k = (g p k.0, k.1)

  from-fresh : (ps : List (List (Option Timestamp))) → From fresh.last_cut_ts ps → All (PartKeeps o) ps
  unfolding fresh
  from-fresh [] k = tt
  from-fresh (p ∷ ps) k = k

  runs : (s : Window) (calls : List WindowCall) → From s.last_cut_ts (from_clear_to_clear (window_run_from o s calls))
  runs s [] = (counted_none s.last_cut_ts, tt)
  runs s (refused ∷ cs) = from-joined _ (unchanged s) (from_clear_to_clear (window_run_from o s cs)) (λ rest k. k) (runs s cs)
  runs s (unscored ∷ cs) = from-joined _ (unchanged s) (from_clear_to_clear (window_run_from o s cs)) (λ rest k. k) (runs s cs)
  runs s (scored ts x ∷ cs) =
      let r = push_and_check o s ts x in
      from-joined _ r (from_clear_to_clear (window_run_from o r.window cs)) (push_goes s ts x) (runs r.window cs)
  runs s (clear ∷ cs) = (counted_none s.last_cut_ts, from-fresh (from_clear_to_clear (window_run_from o fresh cs)) (runs fresh cs))

  pub distance : (calls : List WindowCall) → PartsHold o (window_run o calls)
  distance calls = from-fresh (from_clear_to_clear (window_run o calls)) (runs fresh calls)
