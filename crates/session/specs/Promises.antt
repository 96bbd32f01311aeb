-- What the session's functions promise of the output (RULES 11.6, 11.7): `s`, `w` and `out` are at entry, `s'`, `w'` and `out'` at exit.
use Rattle.std.specs.Prelude.{◌≡◌, Option, None, Some, List, ℕ, ◌+◌, ◌≤◌, ◌<◌, length, take}
use Rattle.content.specs.State.{Answer}
use Rattle.decimal.specs.declared.Writer.{Writer}
use Rattle.decimal.specs.Placed.{placed, Wrote}
use Rattle.frame_call.specs.Call.{Outcome}
use Rattle.session.specs.declared.Session.{Session}
use Rattle.session.specs.Output.{line_call, after, line_text, output}
use Rattle.session.specs.Feeding.{State, fed, fed_text, last_text, held_after}
use Rattle.session.specs.Sessions.{place_of, last_state}

-- a call with this outcome: its answer, and the store after it; of the session nothing changes but the memory
pub record Calls (s : Session) (o : Outcome Answer) (a : Answer) (s' : Session) : Type 0 where
  pub value : a ≡ o.answer
  pub store_after : s'.store ≡ o.store
  pub others : s' ≡ record s { luma = s'.luma; store = s'.store; scratch = s'.scratch; magnitudes = s'.magnitudes }

-- the line that is held is called, and its text written: the next line holds nothing yet, and the bytes of this one stay
pub record Ends (s : Session) (w : Writer) (s' : Session) (w' : Writer) : Type 0 where
  pub none : s'.length ≡ 0
  pub line : s'.line ≡ s.line
  pub place : place_of s' ≡ after (place_of s) (take s.length s.line)
  pub text : Wrote w (line_text s.number (line_call (place_of s) (take s.length s.line)).answer) w'

-- more bytes of a line are held
pub record Holds (s : Session) (bytes : List ℕ) (s' : Session) : Type 0 where
  pub held : take s'.length s'.line ≡ held_after (take s.length s.line) bytes
  pub others : s' ≡ record s { length = s'.length; line = s'.line }

-- the first bytes of the chunk are taken, and their text is written: all of them, or there is no room left for a line's text
pub record Takes (s : State) (chunk : List ℕ) (w : Writer) (s' : State) (w' : Writer) (taken : ℕ) : Type 0 where
  pub within : taken ≤ length chunk
  pub state : s' ≡ fed s (take taken chunk)
  pub text : Wrote w (fed_text s (take taken chunk)) w'
  pub inside : w'.at ≤ length w.out.now
  pub full : taken < length chunk → length w.out.now < w'.at + 64

-- the first bytes of the chunk are taken, and their text is written to `out` at place `at`
pub record Feeds (s : State) (chunk out : List ℕ) (at : ℕ) (s' : State) (out' : List ℕ) (taken written : ℕ) : Type 0 where
  pub within : taken ≤ length chunk
  pub state : s' ≡ fed s (take taken chunk)
  pub text : out' ≡ placed out at (fed_text s (take taken chunk))
  pub size : written ≡ length (fed_text s (take taken chunk))

-- bytes are left only where no room is left for a line's text, and all that is written lies inside `out`
pub record Filled (chunk out : List ℕ) (at taken written : ℕ) : Type 0 where
  pub inside : at + written ≤ length out
  pub full : taken < length chunk → length out < at + written + 64

-- the end of the input: the text of the last line is written to `out` at place `at`
pub record Finishes (s : State) (out : List ℕ) (at : ℕ) (s' : State) (out' : List ℕ) (written : ℕ) : Type 0 where
  pub state : s' ≡ last_state s
  pub text : out' ≡ placed out at (last_text s)
  pub size : written ≡ length (last_text s)

-- The whole session: where there was room, the output of the input is written to the start of `out`, and its length is told. 64 bytes more
-- than the output are always room enough; of less it is left open whether there was room. Where there was none, nothing is told, and the bytes
-- of `out'` are left open: any are right.
abbrev pub IsOutput : (input out out' : List ℕ) → Option ℕ → Type 0
IsOutput input out out' None = length out < length (output input) + 64
IsOutput input out out' (Some written) = (out' ≡ placed out 0 (output input)) × (written ≡ length (output input))
