-- The lists of calls that `replay_filter` makes (compare/README.md, "Replays"): a part of the comparison with the Rust (RULES 14.3).
use Rattle.std.specs.Prelude.{Bool, cond, List, [], ◌∷◌, ℕ, zero, suc, ◌+◌, ◌*◌, ◌%◌, eqb, pos, negsuc, get_or, replicate, None}
use Rattle.laws.specs.Floats.{float}
use Rattle.timestamp.specs.declared.Timestamp.{Timestamp}
use Rattle.score.specs.declared.Components.{Components}
use Rattle.score.specs.Scores.{default_weights, luma_only_weights}
use Rattle.filter.specs.declared.FilterMode.{FilterMode}
use Rattle.filter.specs.declared.FilterMode.TheVariants.{Suppress, Merge}
use Rattle.content.specs.declared.Options.{Options}
use Rattle.content.specs.declared.Detector.{Detector}
use Rattle.light_plan.specs.Plan.{no_plan}
use Rattle.content.specs.Options.{options}
use Rattle.content.specs.State.{Answer, cleared_answer, settled}
use Rattle.frame_call.specs.Call.{Outcome, luma, memory}
use Rattle.content.specs.Step.{called}
use Rattle.replay.specs.declared.Digest.{Digest}
use Rattle.replay.specs.Digest.{empty, fed, least_first}
use Rattle.replay.specs.Generator.{next_of, byte_of}
use Rattle.replay_filter.specs.declared.Run.{Run}
use Rattle.replay_filter.specs.Answers.{answer_fed}

-- the settings of a list (RULES 8.1), by four draws
abbrev pub mode_of : ℕ → FilterMode
mode_of b = cond (eqb (b % 2) 0) Suppress Merge

abbrev pub weights_of : ℕ → Components
weights_of b = cond (eqb (b % 2) 0) default_weights luma_only_weights

abbrev pub minimum_of : ℕ → ℕ
minimum_of b =
    get_or
    (0 ∷ 1 ∷ 2 ∷ 400000 ∷ 1000000 ∷ 9223372036854775808 ∷ 18446744073709551614 ∷ 18446744073709551615 ∷ [])
    (b % 8)
    0

abbrev pub options_of : ℕ → ℕ → ℕ → ℕ → Options
options_of b1 b2 b3 b4 = options (float 27) (minimum_of b4) (weights_of b3) (mode_of b1) None (eqb (b2 % 2) 1) no_plan

-- the stride of a frame, by its action: 0 for action 1, which is refused by 2 (RULES 2.6), otherwise 1
abbrev pub stride_of : ℕ → ℕ
stride_of action = cond (eqb action 1) 0 1

-- `clear`, or a luma frame of 1 × 1, with this store and so many places of scratch and magnitudes
unfoldable pub answered_of : Detector → ℕ → ℕ → Timestamp → List ℕ → ℕ → ℕ → Outcome Answer
answered_of d action value ts store scratch magnitudes =
    cond
    (eqb action 0)
    (record { answer = cleared_answer d; store = store })
    (called d (luma (value ∷ []) 1 1 (stride_of action) ts (memory store (replicate scratch 0) (replicate magnitudes (pos 0)))))

-- a stamp by its place among sixteen
abbrev pub stamp_of : ℕ → Timestamp
stamp_of place =
    record {
      micros =
          get_or
          (negsuc 9223372036854775807
          ∷ negsuc 9223372036854775806
          ∷ negsuc 9223372036853775807
          ∷ negsuc 999999
          ∷ negsuc 0
          ∷ pos 0
          ∷ pos 1
          ∷ pos 2
          ∷ pos 3
          ∷ pos 400000
          ∷ pos 1000000
          ∷ pos 1000001
          ∷ pos 2000000
          ∷ pos 2400000
          ∷ pos 9223372036854775806
          ∷ pos 9223372036854775807
          ∷ [])
          place
          (pos 0);
    }

-- how far the place of the stamp moves from one call to the next
abbrev pub moved_by : ℕ → Bool → ℕ
moved_by b wide = cond wide (b % 16) (b % 4)

-- one call: the run and the store after it, the memory being of 9 and 1 places
unfoldable pub outcome_of : Bool → Run → List ℕ → Outcome Answer
outcome_of wide run store =
    let x1 = next_of run.x in
    let x2 = next_of x1 in
    let x3 = next_of x2 in
    answered_of
    run.detector
    (byte_of x1 % 16)
    (byte_of x3 % 2 * 200)
    (stamp_of ((run.place + moved_by (byte_of x2) wide) % 16))
    store
    9
    1

unfoldable pub run_after : Bool → Run → Outcome Answer → Run
run_after wide run o =
    let x2 = next_of (next_of run.x) in
    record {
      x = next_of x2;
      place = (run.place + moved_by (byte_of x2) wide) % 16;
      digest = answer_fed run.digest o.answer;
      detector = o.answer.detector;
    }

-- the run and the store after some calls
pub record Listed : Type 0 where
  pub run : Run
  pub store : List ℕ

-- n calls from this run, with a store of four zeros
unfoldable pub calls_of : Bool → Run → ℕ → Listed
calls_of wide run zero = record { run = run; store = 0 ∷ 0 ∷ 0 ∷ 0 ∷ [] }
calls_of wide run (suc n) =
    let s = calls_of wide run n in
    let o = outcome_of wide s.run s.store in
    record { run = run_after wide s.run o; store = o.store }

-- the settings call of list x, and the place of its first stamp
unfoldable pub opened_of : Digest → ℕ → Run
opened_of digest x =
    let x1 = next_of x in
    let x2 = next_of x1 in
    let x3 = next_of x2 in
    let x4 = next_of x3 in
    let x5 = next_of x4 in
    let s = settled (options_of (byte_of x1) (byte_of x2) (byte_of x3) (byte_of x4)) in
    record {
      x = x5;
      place = byte_of x5 % 16;
      digest = fed digest (least_first 4 s.number);
      detector = s.detector;
    }

-- list x: 24 calls
unfoldable pub list_of : Digest → ℕ → Digest
list_of digest x = (calls_of (eqb (x % 2) 1) (opened_of digest x) 24).run.digest

-- the first n lists of batch b
unfoldable pub batch_of : ℕ → ℕ → Digest
batch_of b zero = empty
batch_of b (suc n) = list_of (batch_of b n) (b * 256 + n)
