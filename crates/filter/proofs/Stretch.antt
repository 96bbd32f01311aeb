-- The state follows the stretches: each stretch's answers are none, for its first frame, and then those of a fresh filter to its scored frames.
-- Assumes nothing.
use Rattle.std.proofs.Common.{None, Option, Some}
use mathlib.Core.Path.{◌≡◌, refl, sym, ap, ◌∙◌}
use mathlib.Core.Bool.{Bool, true, false, ◌&&◌}
use mathlib.Core.List.{List, [], ◌∷◌, ◌++◌, map}
use lib.IntN.{ℤ}
use Rattle.filter.specs.declared.FilterOptions.{FilterOptions}
use Rattle.filter.specs.declared.Filter.{Filter}
use Rattle.filter.specs.declared.FilterStep.{FilterStep}
use Rattle.filter.specs.Flash.{fresh}
use Rattle.filter.specs.Calls.{Frame, FilterCall, refused, frame, clear, State, start, has_score, filtered, turn, Answered, ◌brought◌, filter_run_from, filter_run}
use Rattle.laws.specs.Lists.{All, leave_out}
use Rattle.filter.specs.Claim.{filter_refused, without_refused, Shot, Stretch, goes_on, joined_stretch, stretches, scored_frames, answers, cuts_in, cuts, all_cuts}
use Rattle.filter.proofs.Frames.{answers_from, cuts_from}
use Rattle.timestamp.specs.declared.Timestamp.{Timestamp}

module _ (o : FilterOptions) where
  -- the answers are the filter's, from φ on
  abbrev Plays : Filter → List (Shot (Option Timestamp)) → Type 0
  Plays φ xs = map (λ (x : Shot (Option Timestamp)). x.answer) xs ≡ answers_from o φ (map (λ (x : Shot (Option Timestamp)). x.frame) xs)

  -- a whole stretch
  abbrev pub Played : Stretch (Option Timestamp) → Type 0
  Played t = (t.first.answer ≡ None) × Plays fresh t.scored

  -- the stretches of the calls to come: the first of them goes on with what φ has seen, or begins
  abbrev Part : (goes_on : Bool) → Filter → List (Stretch (Option Timestamp)) → Type 0
  Part b φ [] = Unit {0}
  Part true φ (t ∷ ts) = Plays φ (t.first ∷ t.scored) × All Played ts
  Part false φ (t ∷ ts) = Played t × All Played ts

  part-frame : (g b : Bool) (φ : Filter) (f : Frame) (ts : List (Stretch (Option Timestamp))) → let r : FilterStep = filtered o b φ f in
      Part (g && true) r.filter ts → Part b φ (joined_stretch g (record { frame = f; answer = r.cut }) ts)
  part-frame g true φ f [] p = (refl, tt)
  part-frame g false φ f [] p = ((refl, refl), tt)
  part-frame true true φ f (t ∷ ts) p = (ap (λ rs. (filtered o true φ f).cut ∷ rs) p.0, p.1)
  part-frame true false φ f (t ∷ ts) p = ((refl, p.0), p.1)
  part-frame false true φ f (t ∷ ts) p = (refl, p)
  part-frame false false φ f (t ∷ ts) p = ((refl, refl), p)

  part-clear : (g : Bool) (φ χ : Filter) (ts : List (Stretch (Option Timestamp))) → Part (g && false) φ ts → Part false χ ts
  part-clear g φ χ [] p = tt
  part-clear true φ χ (t ∷ ts) p = p
  part-clear false φ χ (t ∷ ts) p = p

  part-all : (φ : Filter) (ts : List (Stretch (Option Timestamp))) → Part false φ ts → All Played ts
  part-all φ [] p = tt
  part-all φ (t ∷ ts) p = p

  follow : (st : State) (calls : List FilterCall) → let xs : List (Answered (Option Timestamp)) = filter_run_from o st calls in
      Part (goes_on st.width st.height xs && st.has_previous) st.filter (stretches xs)
  follow st [] = tt
  follow st (refused ∷ cs) = follow st cs
  follow st (frame w h f ∷ cs) =
      let next = (turn o st (frame w h f)).state in
      let xs = filter_run_from o next cs in
      part-frame (goes_on w h xs) (has_score st w h) st.filter f (stretches xs) (follow next cs)
  follow st (clear ∷ cs) =
      let next = (turn o st clear).state in
      let xs = filter_run_from o next cs in
      part-clear (goes_on next.width next.height xs) fresh st.filter (stretches xs) (follow next cs)

  pub played : (calls : List FilterCall) → All Played (stretches (filter_run o calls))
  played calls =
      let xs = filter_run o calls in
      part-all fresh (stretches xs) (part-clear (goes_on 0 0 xs) fresh fresh (stretches xs) (follow start calls))

  -- the cuts of a stretch are the filter's
  pub cuts_are : (t : Stretch (Option Timestamp)) → Played t → cuts t ≡ cuts_from o fresh (scored_frames t)
  cuts_are t p = rw p.0 (ap cuts_in p.1)

  -- ---- every cut is a stretch's

  cuts_first : (a : Option Timestamp) (rs : List (Option Timestamp)) (cs : List ℤ) → cuts_in rs ≡ cs → cuts_in (a ∷ rs) ≡ cuts_in (a ∷ []) ++ cs
  cuts_first None rs cs e = e
  cuts_first (Some t) rs cs e = ap (λ ts. t.micros ∷ ts) e

  cuts-joined : (g : Bool) (x : Shot (Option Timestamp)) (ts : List (Stretch (Option Timestamp))) → all_cuts (joined_stretch g x ts) ≡ cuts_in (x.answer ∷ []) ++ all_cuts ts
  cuts-joined g x [] = refl
  cuts-joined false x (t ∷ ts) = refl
  cuts-joined true x (t ∷ ts) = by_answer x.answer refl
    where
      by_answer : (a : Option Timestamp) → x.answer ≡ a → all_cuts (joined_stretch true x (t ∷ ts)) ≡ cuts_in (x.answer ∷ []) ++ (cuts t ++ all_cuts ts)
      by_answer None e = rw e
      by_answer (Some u) e = rw e

  no_more : (st : State) (calls : List FilterCall) → cuts_in (answers (filter_run_from o st calls)) ≡ all_cuts (stretches (filter_run_from o st calls))
  no_more st [] = refl
  no_more st (refused ∷ cs) = no_more st cs
  no_more st (frame w h f ∷ cs) =
      let r = turn o st (frame w h f) in
      let xs = filter_run_from o r.state cs in
      cuts_first r.cut (answers xs) (all_cuts (stretches xs)) (no_more r.state cs)
      ∙ sym (cuts-joined (goes_on w h xs) (record { frame = f; answer = r.cut }) (stretches xs))
  no_more st (clear ∷ cs) = no_more (turn o st clear).state cs

  pub no-others : (calls : List FilterCall) → cuts_in (answers (filter_run o calls)) ≡ all_cuts (stretches (filter_run o calls))
  no-others calls = no_more start calls

  -- ---- refused calls

  without : (st : State) (calls : List FilterCall)
      → filter_run_from o st (leave_out filter_refused calls) ≡ without_refused (filter_run_from o st calls)
  without st [] = refl
  without st (refused ∷ cs) = without st cs
  without st (frame w h f ∷ cs) =
      let r = turn o st (frame w h f) in
      ap (λ xs. (frame w h f brought r.cut) ∷ xs) (without r.state cs)
  without st (clear ∷ cs) =
      let r = turn o st clear in
      ap (λ xs. (clear brought r.cut) ∷ xs) (without r.state cs)

  pub left_out : (calls : List FilterCall) → filter_run o (leave_out filter_refused calls) ≡ without_refused (filter_run o calls)
  left_out calls = without start calls
