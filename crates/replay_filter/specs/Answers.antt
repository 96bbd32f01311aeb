-- What `replay_filter` feeds to its digest of an answer (compare/README.md, "Replays"): a part of the comparison with the Rust (RULES 14.3).
use Rattle.std.specs.Prelude.{ℕ, ◌-◌, ℤ, pos, negsuc, Float, None, Option, Some}
use Rattle.std.specs.Float.{binary64}
use Rattle.std.specs.Float.Ieee.{to_bits}
use Rattle.replay.specs.declared.Digest.{Digest}
use Rattle.replay.specs.Digest.{fed, least_first, step_of}
use Rattle.timestamp.specs.declared.Timestamp.{Timestamp}
use Rattle.content.specs.State.{Answer}

-- the 64 bits of a signed number, as a natural one
abbrev pub bits_of : ℤ → ℕ
bits_of (pos n) = n
bits_of (negsuc n) = 18446744073709551615 - n

-- the cut: a byte 0 where there is none; or a byte 1 and the stamp's 64 bits
unfoldable pub cut_fed : Digest → Option Timestamp → Digest
cut_fed d None = step_of d 0
cut_fed d (Some t) = fed (step_of d 1) (least_first 8 (bits_of t.micros))

-- the score: a byte 0 where there is none; or a byte 1 and the score's bit pattern
unfoldable pub score_fed : Digest → Option Float → Digest
score_fed d None = step_of d 0
score_fed d (Some score) = fed (step_of d 1) (least_first 8 (to_bits binary64 score))

-- an answer: its number in 32 bits, then its cut, then its score
unfoldable pub answer_fed : Digest → Answer → Digest
answer_fed d a = score_fed (cut_fed (fed d (least_first 4 a.number)) a.cut) a.score
