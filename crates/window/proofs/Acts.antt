-- For a detector whose calls act on the calls of `specs/Calls.antt`: the claim holds of its own calls and answers. Assumes nothing.
use Rattle.std.proofs.Common.{Option}
use mathlib.Core.Path.{◌≡◌, refl, ap}
use mathlib.Core.List.{List, [], ◌∷◌}
use Rattle.window.specs.declared.WindowOptions.{WindowOptions}
use Rattle.window.specs.declared.Window.{Window}
use Rattle.window.specs.Window.{fresh}
use Rattle.window.specs.Calls.{WindowCall, turn, ◌brought◌, window_run_from}
use Rattle.window.specs.Claim.{PartsHold}
use Rattle.window.specs.Seen.{seen_by_window}
use Rattle.window.proofs.Theorem.{theorem}
use Rattle.timestamp.specs.declared.Timestamp.{Timestamp}

-- Good is what holds of every state of a run, such as which options it has
module _ {S C : Type 0} (next : S → C → S) (view : S → C → WindowCall) (Good : S → Type 0) (stays : (s : S) (c : C) → Good s → Good (next s c)) where
  views : S → List C → List WindowCall
  views s [] = []
  views s (c ∷ cs) = view s c ∷ views (next s c) cs

  -- `window` is the window that the detector keeps, and each call acts on it as its view does
  module _ (o : WindowOptions) (cut : S → C → Option Timestamp) (window : S → Window)
      (acts : (s : S) (c : C) → Good s → turn o (window s) (view s c) ≡ record { window = window (next s c); cut = cut s c }) where
    runs : (s : S) (cs : List C) → Good s → seen_by_window next view cut s cs ≡ window_run_from o (window s) (views s cs)
    unfolding views
    runs s [] g = refl
    runs s (c ∷ cs) g = rw (acts s c g) (ap (λ xs. (view s c brought cut s c) ∷ xs) (runs (next s c) cs (stays s c g)))

    pub acts-holds : (s : S) → Good s → window s ≡ fresh → (cs : List C) → PartsHold o (seen_by_window next view cut s cs)
    acts-holds s g e cs = rw (runs s cs g, e) (theorem o (views s cs)).holds
