-- The session record as the state that the definitions of the session speak of (RULES 11.5).
use Rattle.std.specs.Prelude.{cond, [], ◌*◌, eqb, pos, length, take, replicate}
use Rattle.content.specs.Options.{defaults}
use Rattle.content.specs.State.{Answer, fresh}
use Rattle.frame_call.specs.Call.{Outcome, luma, memory}
use Rattle.content.specs.Step.{called}
use Rattle.frame_line.specs.declared.FrameLine.{FrameLine}
use Rattle.session.specs.declared.Session.{Session}
use Rattle.session.specs.Output.{Place, after}
use Rattle.session.specs.Feeding.{State}

-- the session before the first byte: a content detector at default settings, and memory of zeros (RULES 11.5)
abbrev pub new_session : Session
new_session =
    record {
      detector = fresh defaults;
      number = 0;
      length = 0;
      line = replicate 8193 0;
      luma = replicate 1024 0;
      store = replicate 4096 0;
      scratch = replicate 9216 0;
      magnitudes = replicate 1024 (pos 0);
    }

abbrev pub place_of : Session → Place
place_of s = record { detector = s.detector; store = s.store; number = s.number }

-- the state that any record stands for: where its length is over 8,193, the whole line is held
abbrev pub state_of : Session → State
state_of s = record { place = place_of s; held = take s.length s.line }

-- the luma call of a frame line, its values the first of the luma values (RULES 11.5)
unfoldable pub frame_call_of : Session → FrameLine → Outcome Answer
frame_call_of s f =
    called s.detector (luma (take (f.width * f.height) s.luma) f.width f.height f.width f.stamp (memory s.store (replicate 9216 0) (replicate 1024 (pos 0))))

-- the state after the end of the input: a line that no line feed ended is ended there (RULES 11.1)
unfoldable pub last_state : State → State
last_state s = record { place = cond (eqb (length s.held) 0) s.place (after s.place s.held); held = [] }
