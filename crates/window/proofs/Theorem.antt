-- THE THEOREM: the spacing theorem for adaptive calls (RULES 14.12), as `specs/Claim.antt` states it, holds of every options and every list of calls from a fresh state.
-- Assumes nothing.
use mathlib.Core.Path.{◌≡◌, refl, ap}
use mathlib.Core.List.{List, [], ◌∷◌}
use Rattle.laws.specs.Lists.{leave_out}
use Rattle.window.specs.declared.WindowOptions.{WindowOptions}
use Rattle.window.specs.declared.Window.{Window}
use Rattle.window.specs.Window.{fresh}
use Rattle.window.specs.Calls.{WindowCall, refused, unscored, scored, clear, turn, ◌brought◌, window_run_from}
use Rattle.window.specs.Claim.{window_refused, without_refused, WindowClaim}
use Rattle.window.proofs.Distance.{distance}

module _ (o : WindowOptions) where
  left_out : (s : Window) (calls : List WindowCall) → window_run_from o s (leave_out window_refused calls) ≡ without_refused (window_run_from o s calls)
  left_out s [] = refl
  left_out s (refused ∷ cs) = left_out s cs
  left_out s (unscored ∷ cs) = ap (λ xs. (unscored brought (turn o s unscored).cut) ∷ xs) (left_out s cs)
  left_out s (scored ts x ∷ cs) =
      let r = turn o s (scored ts x) in
      ap (λ xs. (scored ts x brought r.cut) ∷ xs) (left_out r.window cs)
  left_out s (clear ∷ cs) = ap (λ xs. (clear brought (turn o s clear).cut) ∷ xs) (left_out fresh cs)

  pub theorem : (calls : List WindowCall) → WindowClaim o calls
  theorem calls = record { holds = distance o calls; left_out = left_out fresh calls }
