-- Scored frames in Suppress: the cuts are an allowed choice of them, and no allowed choice is longer. Assumes nothing.
use Rattle.std.proofs.Common.{Some}
use Prim.Native.Nat.{◌≤◌, zero-le, suc-le-suc}
use mathlib.Core.Path.{◌≡◌, refl, sym, ap, ◌∙◌}
use mathlib.Core.Bool.{Bool, true, false, ◌&&◌, false≢true}
use mathlib.Core.List.{List, [], ◌∷◌}
use lib.IntN.{ℤ, pos, ◌+ℤ◌}
use lib.ListN.{length}
use lib.Signed.{◌≤ℤ◌}
use Rattle.timestamp.specs.declared.Timestamp.{Timestamp}
use native.Mathlib.Omega.{arith}
use Rattle.std.proofs.lemmas.Int.{ints}
use Rattle.filter.specs.declared.FilterMode.TheVariants.{Suppress}
use Rattle.filter.specs.declared.FilterOptions.{FilterOptions}
use Rattle.filter.specs.declared.Filter.{Filter}
use Rattle.filter.specs.Flash.{fresh, virtual_seed, seeded, min_length_met, suppressed, flash_filter}
use Rattle.filter.specs.Calls.{Frame}
use Rattle.laws.specs.Lists.{All}
use Rattle.filter.specs.Claim.{Choice, none, skip, pick, NeverFall, stamps, Suppressed}
use Rattle.filter.proofs.Frames.{cuts_from, Chain, chain-down, chain-distance, chain-from, keeps-chain, choice-cases, choice-rest, choice-length, choice-first}
use Rattle.laws.proofs.Bools.{and-true}

-- the filter that counts from t
abbrev counting : Filter → Timestamp → Filter
counting φ t = record { last_above = Some t; merge_enabled = φ.merge_enabled; merge_triggered = φ.merge_triggered; merge_start = φ.merge_start }

abbrev Above : Frame → Type 0
Above f = f.above ≡ true

module _ (o : FilterOptions) where
  abbrev hit : Timestamp → Frame → Bool
  hit t f = f.above && min_length_met o t f.stamp

  -- the cuts after a frame, by whether it is one
  abbrev further : Filter → Timestamp → Frame → List Frame → Bool → List ℤ
  further φ t f fs true = f.stamp.micros ∷ cuts_from o (counting φ f.stamp) fs
  further φ t f fs false = cuts_from o (counting φ t) fs

  record Picked (t : Timestamp) (fs : List Frame) (cs : List ℤ) : Type 0 where
    chosen : List Frame
    choice : Choice chosen fs
    are-cuts : stamps chosen ≡ cs
    above : All Above chosen
    chain : Chain o.min_duration t.micros (stamps chosen)

  pick-step : (φ : Filter) (t : Timestamp) (f : Frame) (fs : List Frame) (b : Bool) → hit t f ≡ b
      → ((u : Timestamp) → Picked u fs (cuts_from o (counting φ u) fs)) → Picked t (f ∷ fs) (further φ t f fs b)
  unfolding min_length_met
  pick-step φ t f fs true e ih =
      let r = ih f.stamp in
      let h = and-true f.above (min_length_met o t f.stamp) e in
      record {
        chosen = f ∷ r.chosen;
        choice = pick r.choice;
        are-cuts = ap (λ cs. f.stamp.micros ∷ cs) r.are-cuts;
        above = (h.0, r.above);
        chain = (grind (arith, ints, h.1), r.chain);
      }
  pick-step φ t f fs false e ih =
      let r = ih t in
      record { chosen = r.chosen; choice = skip r.choice; are-cuts = r.are-cuts; above = r.above; chain = r.chain }

  -- greedy is best: whatever is chosen of the frames after a cut, the cut comes first
  Best : Timestamp → List Frame → List ℤ → Type 0
  Best t fs cs = (gs : List Frame) → Choice gs fs → All Above gs → Chain o.min_duration t.micros (stamps gs) → length gs ≤ length cs

  best-step : (φ : Filter) (t : Timestamp) (f : Frame) (fs : List Frame) (b : Bool) → hit t f ≡ b → All (λ (u : ℤ). f.stamp.micros ≤ℤ u) (stamps fs)
      → ((u : Timestamp) → Best u fs (cuts_from o (counting φ u) fs)) → Best t (f ∷ fs) (further φ t f fs b)
  unfolding Best min_length_met
  best-step φ t f fs true e low ih =
      choice-cases
      (λ gs. All Above gs → Chain o.min_duration t.micros (stamps gs) → length gs ≤ length (further φ t f fs true))
      f fs
      (elim [
        | [] ↦ λ h q r. zero-le
        | g ∷ gs ↦ λ h q r. suc-le-suc (ih f.stamp gs (choice-rest h) q.1 (chain-down o.min_duration (stamps gs) (choice-first _ h low) r.1))
      ])
      (λ gs h q r. suc-le-suc (ih f.stamp gs h q.1 r.1))
  best-step φ t f fs false e low ih =
      choice-cases
      (λ gs. All Above gs → Chain o.min_duration t.micros (stamps gs) → length gs ≤ length (further φ t f fs false))
      f fs
      (ih t)
      (λ gs h q r. absurd (false≢true (sym e ∙ hits q.0 r.0)))
    where
      hits : Above f → ((t.micros +ℤ pos o.min_duration) ≤ℤ f.stamp.micros) → hit t f ≡ true
      hits q r =
          let m : min_length_met o t f.stamp ≡ true = grind (arith, ints) in
          rw (q, m)

  module _ (mode : o.filter_mode ≡ Suppress) where
    step_is : (φ : Filter) (t : Timestamp) (f : Frame) (fs : List Frame) (b : Bool) → hit t f ≡ b → cuts_from o (counting φ t) (f ∷ fs) ≡ further φ t f fs b
    unfolding flash_filter seeded suppressed min_length_met
    step_is φ t f fs true e = simp (mode, e)
    step_is φ t f fs false e = simp (mode, e)

    picked : (φ : Filter) (t : Timestamp) (fs : List Frame) → Picked t fs (cuts_from o (counting φ t) fs)
    picked φ t [] = record { chosen = []; choice = none; are-cuts = refl; above = tt; chain = tt }
    picked φ t (f ∷ fs) = rw (step_is φ t f fs (hit t f) refl) (pick-step φ t f fs (hit t f) refl (λ u. picked φ u fs))

    best : (φ : Filter) (t : Timestamp) (fs : List Frame) → NeverFall (stamps fs) → Best t fs (cuts_from o (counting φ t) fs)
    unfolding Best
    best φ t [] n = λ gs h q r. choice-length h
    best φ t (f ∷ fs) n = rw (step_is φ t f fs (hit t f) refl) (best-step φ t f fs (hit t f) refl n.0 (λ u. best φ u fs n.1))

    -- the first scored frame seeds the filter
    seed-is : (f : Frame) (fs : List Frame) → cuts_from o fresh (f ∷ fs) ≡ cuts_from o (counting fresh (virtual_seed f.stamp o)) (f ∷ fs)
    unfolding flash_filter seeded suppressed
    seed-is f fs = rw mode

    pub suppressed-keeps : (fs : List Frame) → Suppressed o fs (cuts_from o fresh fs)
    unfolding Best
    suppressed-keeps [] =
        record {
          chosen = [];
          are-cuts = refl;
          allowed = record { choice = none; above = tt; from_first = tt; distance = tt };
          greatest = λ n gs a. choice-length a.choice;
        }
    suppressed-keeps (f ∷ fs) =
        let d = o.min_duration in
        let seed = virtual_seed f.stamp o in
        let s = seed.micros in
        let r = picked fresh seed (f ∷ fs) in
        record {
          chosen = r.chosen;
          are-cuts = r.are-cuts ∙ sym (seed-is f fs);
          allowed = record { choice = r.choice; above = r.above; from_first = chain-from d s (stamps r.chosen) r.chain; distance = chain-distance d s (stamps r.chosen) r.chain };
          greatest = λ n gs a. rw (seed-is f fs) (best fresh seed (f ∷ fs) n gs a.choice a.above (keeps-chain d s (stamps gs) a.from_first a.distance));
        }
