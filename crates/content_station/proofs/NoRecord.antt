-- What is not a record is refused by 15, whatever the call.
use mathlib.Core.Path.{◌≡◌, ◌∙◌}
use mathlib.Core.Bool.{true, false}
use mathlib.Core.List.{List}
use Prim.Native.Nat.{ℕ}
use Rattle.frame_call.specs.Call.{Memory, Call, clear}
use Rattle.content.specs.declared.Detector.{Detector}
use Rattle.content.specs.Options.{picture_options}
use Rattle.content.specs.State.{bad_state, cleared_answer}
use Rattle.content.specs.Step.{stepped, called}
use Rattle.content_words.specs.Record.{is_content, content_of}
use Rattle.content_words.proofs.Refused.{no-record-bad}
use Rattle.content_words.specs.Calls.{accepted}
use Rattle.station_answer.proofs.Refused.{bad-15}
use Rattle.station_answer.specs.Promises.{FrameContract, ClearContract}
use Rattle.content_station.specs.Station.{content_layout, content_call}

cleared : (d : Detector) → bad_state d ≡ true → (cleared_answer d).number ≡ 15
unfolding cleared_answer
cleared d b = rw b

no-record-refused : (s : List ℕ) (c : Call) → is_content s ≡ false → (called (content_of s) c).answer.number ≡ 15
no-record-refused s c e =
    bad-15 (λ (d : Detector). d.stream) (λ (d : Detector). picture_options d.options) bad_state stepped cleared_answer accepted cleared (content_of s) c (no-record-bad s e)

-- the number that a frame call returns, and that `clear` returns
pub frame-15 : (s s' a a' : List ℕ) (m m' : Memory) (c : Call) (r : ℕ) → is_content s ≡ false
    → FrameContract content_layout (content_call (content_of s) c) r s s' a a' m m' → r ≡ 15
frame-15 s s' a a' m m' c r e told = told.number ∙ no-record-refused s c e

pub clear-15 : (s s' : List ℕ) (r : ℕ) → is_content s ≡ false → ClearContract content_layout (content_call (content_of s) clear) r s s' → r ≡ 15
clear-15 s s' r e told = told.number ∙ no-record-refused s clear e
