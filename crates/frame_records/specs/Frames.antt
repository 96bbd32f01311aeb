-- What the constructors of `LumaFrame`, `RgbFrame` and `HsvFrame` return: the number of the frame's refusal by 1 to 5, or 0, and the frame
-- as it was given, a record that holds the caller's planes (RULES 2.8).
use Rattle.std.specs.Prelude.{ℕ, List, length, Result, Ok, Err}
use Rattle.std.specs.Borrow.{Bor}
use Rattle.timestamp.specs.declared.Timestamp.{Timestamp}
use Rattle.refusal.specs.declared.Refused.{Refused}
use Rattle.refusal.specs.Refusal.{number_of}
use Rattle.frame.specs.Checks.{luma_refusal, bgr_refusal, hsv_refusal}
use Rattle.frame_records.specs.declared.PackedFrame.{PackedFrame}
use Rattle.frame_records.specs.declared.HsvFrame.{HsvFrame}

-- a plane, as the caller lends it
abbrev pub Plane : Type 0
Plane = Bor (List ℕ)

-- a luma frame, and one of packed pixels of three bytes
abbrev pub LumaFrame : Type 0
LumaFrame = PackedFrame 1

abbrev pub RgbFrame : Type 0
RgbFrame = PackedFrame 3

-- a frame and its number; F is the type of the frame
pub record Made (F : Type 0) : Type 0 where
  pub number : ℕ
  pub frame : F

abbrev pub made : {F : Type 0} → ℕ → F → Made F
made n f = record { number = n; frame = f }

-- what the result of a constructor says
abbrev pub made_in : {F : Type 0} → Result F (Refused F) → Made F
made_in (Ok f) = made 0 f
made_in (Err r) = made (number_of r.refusal) r.state

-- a luma frame, which holds one plane, and its number
abbrev pub luma_frame : Plane → ℕ → ℕ → ℕ → Timestamp → Made LumaFrame
luma_frame plane width height stride timestamp = record {
  number = luma_refusal (length plane.now) width height stride;
  frame = record { «data» = plane; width = width; height = height; stride = stride; timestamp = timestamp };
}

-- a BGR frame, which holds packed pixels of three bytes, and its number
abbrev pub rgb_frame : Plane → ℕ → ℕ → ℕ → Timestamp → Made RgbFrame
rgb_frame pixels width height stride timestamp = record {
  number = bgr_refusal (length pixels.now) width height stride;
  frame = record { «data» = pixels; width = width; height = height; stride = stride; timestamp = timestamp };
}

-- an HSV frame, which holds a hue, a saturation and a value plane, and its number
abbrev pub hsv_frame : Plane → Plane → Plane → ℕ → ℕ → ℕ → Timestamp → Made HsvFrame
hsv_frame h s v width height stride timestamp = record {
  number = hsv_refusal (length h.now) (length s.now) (length v.now) width height stride;
  frame = record { h = h; s = s; v = v; width = width; height = height; stride = stride; timestamp = timestamp };
}
