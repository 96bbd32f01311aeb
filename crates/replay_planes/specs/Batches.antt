-- compare/README.md, "Replays": the batches of `replay_planes`.
use Rattle.std.specs.Prelude.{[], ◌∷◌, ℕ, zero, suc, ◌+◌, ◌*◌, ◌/◌, ◌%◌, get_or}
use Rattle.frame.specs.Checks.{luma_refusal, bgr_refusal, hsv_refusal}
use Rattle.replay.specs.declared.Digest.{Digest}
use Rattle.replay.specs.Digest.{empty}
use Rattle.replay.specs.declared.Run.{Run}
use Rattle.replay_planes.specs.declared.Stage.{Stage}
use Rattle.replay_planes.specs.declared.Stage.TheVariants.{CopyPlane, BgrToHsvPlanes, MeanAbsDiff, Sobel, Frame}
use Rattle.replay_planes.specs.Stages.{copied, converted, differed, sobeled, answered, checked}

-- a batch after one more height and kind of the stage
unfoldable pub one_of : Stage → Run → ℕ → ℕ → ℕ → Run
one_of CopyPlane run w h kind = copied run ((w + kind) * h) w h (w + kind) kind
one_of BgrToHsvPlanes run w h kind = converted run ((3 * w + kind) * h) w h (3 * w + kind) kind
one_of MeanAbsDiff run w h kind = differed run (w * h) kind
one_of Sobel run w h kind = sobeled run (w * h) w h kind
one_of Frame run w h kind = checked run w h kind

-- the first n cases of a width: four kinds to a height
unfoldable pub batch_of : Stage → ℕ → ℕ → Run
batch_of stage w zero = record { x = w; digest = empty }
batch_of stage w (suc n) = one_of stage (batch_of stage w n) w (n / 4) (n % 4)

-- a side by its number, from 0 to 6
abbrev pub side_of : ℕ → ℕ
side_of i = get_or (0 ∷ 1 ∷ 4095 ∷ 4096 ∷ 4097 ∷ 1431655766 ∷ 4294967295 ∷ []) i 0

-- the digest with the answers of the three checks of a frame with no bytes
unfoldable pub no_bytes : Digest → ℕ → ℕ → ℕ → Digest
no_bytes d w h stride =
    answered
    (answered (answered d (luma_refusal 0 w h stride)) (bgr_refusal 0 w h stride))
    (hsv_refusal 0 0 0 w h stride)

-- the first n widths, heights and strides, the stride fastest
unfoldable pub sides_of : ℕ → Digest
sides_of zero = empty
sides_of (suc n) = no_bytes (sides_of n) (side_of (n / 49)) (side_of (n / 7 % 7)) (side_of (n % 7))
