-- Lists of calls on one detector (RULES 14.5, 14.6, 14.13), whatever it answers. A is the type of its answers, D that of its states.
use Rattle.std.specs.Prelude.{◌≡◌, Bool, false, not, List, [], ◌∷◌, ℕ, ◌<◌, eqb}
use Rattle.laws.specs.Lists.{All, leave_out}
use Rattle.frame_call.specs.Call.{Call, by_call, frame_number, Outcome}

-- a call's own number: the one by which it is refused at a state that is not bad, or 0. It is 0 for `clear`, which is refused by 15 alone
-- (RULES 14.13).
abbrev pub own_number : Call → ℕ
own_number c = by_call (λ u w h p ts m. frame_number false u w h m) 0 c

-- a call that is refused by its own number, whatever the state; the claim leaves such calls out (RULES 14.6)
abbrev pub is_refused : Call → Bool
is_refused c = not (eqb (own_number c) 0)

-- a call that was made, and what it brought
pub record MadeCall (A : Type 0) : Type 0 where
  pub call : Call
  pub outcome : Outcome A

module _ {D A : Type 0} (called : D → Call → Outcome A) (state_of : A → D) where
  -- each call gets the state that the last one returned; its frame, stamp and memory, whatever they are, are in the call (RULES 14.5)
  abbrev pub run_from : D → List Call → List (MadeCall A)
  run_from d [] = []
  run_from d (c ∷ cs) = record { call = c; outcome = called d c } ∷ run_from (state_of (called d c).answer) cs

  -- What holds of every list of calls from this state, for either detector (RULES 14.13). `number` gives the number of an answer.
  pub record RunClaim (number : A → ℕ) (d : D) (calls : List Call) : Type 0 where
    -- the state is never bad: each call returns its own number, which is never 15 (RULES 14.13)
    pub numbers : All (λ (m : MadeCall A). number m.outcome.answer ≡ own_number m.call) (run_from d calls)
    pub never-bad : All (λ (m : MadeCall A). number m.outcome.answer < 15) (run_from d calls)
    -- when refused calls are left out, each other call brings what it brought: its whole answer, and the store after it (RULES 14.6)
    pub left_out : run_from d (leave_out is_refused calls) ≡ leave_out (λ (m : MadeCall A). is_refused m.call) (run_from d calls)
