-- THE THEOREM: what `specs/Claim.antt` states holds of every list of calls that a station makes on a list, from the words that a new list wrote and
-- memory of at least 512 places. It rests on the contracts of the station's calls and assumes nothing else.
use Rattle.std.proofs.Common.{Option}
use mathlib.Core.Path.{◌≡◌, refl, sym, ap, subst, ◌∙◌}
use mathlib.Core.Bool.{false}
use mathlib.Core.List.{List, [], ◌∷◌, map}
use Prim.Native.Nat.{ℕ, ◌≤◌}
use lib.IntN.{ℤ}
use lib.ListN.{length, drop}
use Rattle.laws.specs.Lists.{All}
use Rattle.laws.proofs.All.{all_map}
use Rattle.filter.specs.declared.FilterMode.TheVariants.{Suppress}
use Rattle.filter.specs.Claim.{Stretch, stretches, cuts_in, cuts}
use Rattle.adaptive.specs.declared.Options.{Options as AdaptiveOptions}
use Rattle.content.specs.declared.Options.{Options}
use Rattle.content.specs.Options.{filter_options}
use Rattle.cut_list.specs.declared.CutList.{CutList}
use Rattle.cut_list.specs.Record.{places, Held, held, new_list, stamps_of}
use Rattle.cut_list.specs.Change.{Turn, same, any_of}
use Rattle.cut_list_claim.specs.Run.{operated, Operated, list_run, list_after, added_since}
use Rattle.cut_list_claim.specs.Claim.{Apart, ListClaim, FitsList}
use Rattle.cut_list_claim.proofs.Theorem.{list-claim}
use Rattle.cut_list_claim.proofs.Cuts.{keeps-fit, stretches-fit}
use Rattle.station_claim.specs.Run.{StationCall}
use Rattle.station_claim.specs.Claim.{with_cut_read, ContentSpacing, read_from_clear_to_clear, AdaptiveSpacing}
use Rattle.cut_list_station.specs.Words.{list_of}
use Rattle.cut_list_station.specs.Promises.{NewContract, ChangeContract}
use Rattle.cut_list_station_claim.specs.Run.{ListCall, operation_of, operated_by, ListCallMade, by-add, by-remove, by-empty, by-nearest, by_span, by-clip, ListCallsMade, none, then}
use Rattle.cut_list_station_claim.specs.Claim.{CallsOnList, FitsByCalls}
use Rattle.timestamp.specs.declared.Timestamp.{Timestamp}

-- ---- one call

pub number_is : {s : List ℕ} {m : List ℤ} {y : ListCall} → ListCallMade s m y → y.number ≡ (operated (held (list_of s) m) y.operation).number
number_is (by-add t c) = c.number
number_is (by-remove t c) = c.number
number_is (by-empty c) = c.number
number_is (by-nearest t c) = c.number
number_is (by_span from to c) = c.number
number_is (by-clip t c) = c.number

changed-to : {t : Turn} {r : ℕ} {s s' : List ℕ} {m' : List ℤ} → ChangeContract t r s s' m' → held (list_of s') m' ≡ t.after
changed-to {t = t} {m' = m'} c = ap (λ (l : CutList). held l m') c.read_back ∙ ap (held t.after.list) c.memory

held-is : {s : List ℕ} {m : List ℤ} {y : ListCall} → ListCallMade s m y → held (list_of y.words) y.memory ≡ (operated (held (list_of s) m) y.operation).after
held-is (by-add t c) = changed-to c
held-is (by-remove t c) = changed-to c
held-is (by-empty c) = changed-to c
held-is (by-nearest t c) = refl
held-is (by_span from to c) = refl
held-is (by-clip t c) = refl

-- ---- a list of calls

run_is : {s s' : List ℕ} {m m' : List ℤ} {ys : List ListCall} → ListCallsMade s m ys s' m' → (h : Held) → held (list_of s) m ≡ h
    → map operated_by ys ≡ list_run h (map operation_of ys)
run_is none h e = refl
run_is (then {y = y} {ys = ys} c rest) h e =
    let number = number_is c ∙ ap (λ (v : Held). (operated v y.operation).number) e in
    let after = held-is c ∙ ap (λ (v : Held). (operated v y.operation).after) e in
    ap (λ (n : ℕ). record { operation = y.operation; number = n } ∷ map operated_by ys) number
    ∙ ap (λ (os : List Operated). record { operation = y.operation; number = (operated h y.operation).number } ∷ os) (run_is rest (operated h y.operation).after after)

left_is : {s s' : List ℕ} {m m' : List ℤ} {ys : List ListCall} → ListCallsMade s m ys s' m' → (h : Held) → held (list_of s) m ≡ h
    → held (list_of s') m' ≡ list_after h (map operation_of ys)
left_is none h e = e
left_is (then {y = y} c rest) h e = left_is rest (operated h y.operation).after (held-is c ∙ ap (λ (v : Held). (operated v y.operation).after) e)

all-operated : (P : Operated → Type 0) (ys : List ListCall) → All P (map operated_by ys) → All (λ (y : ListCall). P (operated_by y)) ys
all-operated P [] a = tt
all-operated P (y ∷ ys) a = (a.0, all-operated P ys a.1)

-- ---- from a new list

module _ (minimum : ℕ) (s s' : List ℕ) (m m' : List ℤ) (ys : List ListCall) (wrote : NewContract minimum s) (made : ListCallsMade s m ys s' m') where
  abbrev new : Held
  new = held (new_list minimum) m

  start : held (list_of s) m ≡ new
  start = ap (λ (l : CutList). held l m) wrote.read_back

  numbers : map operated_by ys ≡ list_run new (map operation_of ys)
  numbers = run_is made new start

  left : held (list_of s') m' ≡ list_after new (map operation_of ys)
  left = left_is made new start

  pub calls-on-list : places ≤ length m → CallsOnList minimum m ys s' m'
  calls-on-list long =
      let claim : ListClaim minimum m (map operation_of ys) = list-claim minimum m long (map operation_of ys) in
      record {
        numbers = numbers;
        left = left;
        never-bad = all-operated (λ (y : Operated). y.number ≡ 15 → ⊥) ys (rw numbers claim.never-bad);
        apart = subst (λ (h : Held). Apart minimum (stamps_of h)) (sym left) claim.apart;
        members = λ t. ap (λ (h : Held). any_of (same t) (stamps_of h)) left ∙ claim.members t ∙ ap (added_since t false) (sym numbers);
        minimum-stays = ap (λ (h : Held). h.list.min_duration) left ∙ claim.minimum-stays;
        rest-stays = ap (λ (h : Held). drop places h.memory) left ∙ claim.rest-stays;
      }

-- ---- the cuts of a detector

numbers_of_lem : (ys : List ListCall) → map (λ (y : ListCall). y.number) ys ≡ map (λ (y : Operated). y.number) (map operated_by ys)
numbers_of_lem [] = refl
numbers_of_lem (y ∷ ys) = ap (λ (ns : List ℕ). y.number ∷ ns) (numbers_of_lem ys)

fits-by-calls : (d : ℕ) (m ts : List ℤ) → FitsList d m ts → FitsByCalls d m ts
fits-by-calls d m ts fits s s' m' ys wrote made e =
    numbers_of_lem ys ∙ ap (map (λ (y : Operated). y.number)) (numbers d s s' m m' ys wrote made ∙ ap (list_run (held (new_list d) m)) e) ∙ fits

-- the cuts that a station reads from the answers of a content detector, in Suppress with a minimum of at least 1, fit a list by its calls: what is
-- asked of the detector's calls, `station_claim` proves of every list of them from the words of a settings call
pub cuts_fit : (o : Options) (s : List ℕ) (zs : List StationCall) → ContentSpacing o s zs → o.filter_mode ≡ Suppress → 1 ≤ o.min_duration
    → (m : List ℤ) → places ≤ length m
    → All (λ (x : Stretch (Option Timestamp)). FitsByCalls o.min_duration m (cuts x)) (stretches (map (with_cut_read o) zs))
cuts_fit o s zs spacing mode one m long =
    all_map (λ x. fits-by-calls o.min_duration m (cuts x)) (stretches (map (with_cut_read o) zs))
    (stretches-fit (filter_options o) mode one m long (map (with_cut_read o) zs) spacing.holds)

-- and so do those of an adaptive detector, from `clear` to `clear`
pub adaptive-cuts-fit : (o : AdaptiveOptions) (s : List ℕ) (zs : List StationCall) → AdaptiveSpacing o s zs → 1 ≤ o.min_duration
    → (m : List ℤ) → places ≤ length m
    → All (λ (cs : List (Option Timestamp)). FitsByCalls o.min_duration m (cuts_in cs)) (read_from_clear_to_clear zs)
adaptive-cuts-fit o s zs spacing one m long =
    all_map (λ cs k. fits-by-calls o.min_duration m (cuts_in cs) (keeps-fit o.min_duration one m long (cuts_in cs) k))
    (read_from_clear_to_clear zs) spacing.distance
