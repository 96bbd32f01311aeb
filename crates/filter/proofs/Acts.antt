-- For a detector whose calls act on the calls of `specs/Calls.antt`: the claim holds of its own calls and answers. Assumes nothing.
use Rattle.std.proofs.Common.{Option}
use mathlib.Core.Path.{◌≡◌, refl, ap}
use mathlib.Core.List.{List, [], ◌∷◌}
use Rattle.filter.specs.declared.FilterOptions.{FilterOptions}
use Rattle.filter.specs.Calls.{FilterCall, State, start, turn, ◌brought◌, filter_run_from}
use Rattle.filter.specs.Claim.{StretchesHold}
use Rattle.filter.specs.Seen.{seen_by_filter}
use Rattle.filter.proofs.Theorem.{theorem}
use Rattle.timestamp.specs.declared.Timestamp.{Timestamp}

-- Good is what holds of every state of a run, such as which options it has
module _ {S C : Type 0} (next : S → C → S) (view : S → C → FilterCall) (Good : S → Type 0) (stays : (s : S) (c : C) → Good s → Good (next s c)) where
  views : S → List C → List FilterCall
  views s [] = []
  views s (c ∷ cs) = view s c ∷ views (next s c) cs

  -- `state` is what the filter's detector would keep, and each call acts on it as its view does
  module _ (o : FilterOptions) (cut : S → C → Option Timestamp) (state : S → State)
      (acts : (s : S) (c : C) → Good s → turn o (state s) (view s c) ≡ record { state = state (next s c); cut = cut s c }) where
    runs : (s : S) (cs : List C) → Good s → seen_by_filter next view cut s cs ≡ filter_run_from o (state s) (views s cs)
    unfolding views
    runs s [] g = refl
    runs s (c ∷ cs) g = rw (acts s c g) (ap (λ xs. (view s c brought cut s c) ∷ xs) (runs (next s c) cs (stays s c g)))

    pub acts-holds : (s : S) → Good s → state s ≡ start → (cs : List C) → StretchesHold o (seen_by_filter next view cut s cs)
    acts-holds s g e cs = rw (runs s cs g, e) (theorem o (views s cs)).holds
