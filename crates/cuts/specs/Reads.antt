-- What follows a read.
use Rattle.std.specs.Prelude.{◌≡◌, Bool, false, cond, List, ℕ, min, eqb, ltb, length, take, Option, None, Some, Result, Ok, Err}
use Rattle.session.specs.Feeding.{State, fed}
use Rattle.session.specs.Sessions.{last_state}

-- how many of `most` bytes a read brought that gave this number: none where it failed
abbrev pub clamp_len : Option ℕ → ℕ → ℕ
clamp_len (Some k) most = min k most
clamp_len None most = 0

-- The state after a read that gave `got` and left its bytes at the start of the chunk: as before where it failed; that of the end of the
-- input where nothing came; else all the bytes that came are fed.
unfoldable pub after_read : State → Option ℕ → List ℕ → State
after_read s None chunk = s
after_read s (Some k) chunk =
    cond (eqb (clamp_len (Some k) (length chunk)) 0) (last_state s) (fed s (take (clamp_len (Some k) (length chunk)) chunk))

-- how many bytes came, and the state: of a read all whose text was written
pub record AfterRead (s : State) (got : Option ℕ) (chunk : List ℕ) (s' : State) (count : ℕ) : Type 0 where
  pub came : count ≡ clamp_len got (length chunk)
  pub state : s' ≡ after_read s got chunk

-- the same of some number that a read gave: which one it was, and which bytes it left, is the input's
pub record FedSome (s : State) (chunk : List ℕ) (s' : State) (count : ℕ) : Type 0 where
  pub got : Option ℕ
  pub after : AfterRead s got chunk s' count

-- there is more to read after a read that gave bytes, all whose text was written: a failed write is an error
abbrev pub goes_on : {E : Type 0} → Result ℕ E → Bool
goes_on (Ok count) = ltb 0 count
goes_on (Err e) = false
