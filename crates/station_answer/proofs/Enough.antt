-- The sizes are exactly what refusals 12 to 14 ask for: with so much memory none of them holds, and with less each does.
use mathlib.Core.Path.{◌≡◌}
use mathlib.Core.Bool.{false}
use Prim.Native.Nat.{ℕ, ◌≤◌, ◌<◌}
use borrow.Author.Tests.{lt-ltb, le-ltb}
use Rattle.frame.specs.Checks.{too_large}
use Rattle.stream.specs.Stream.{memory_refusal}
use Rattle.station_answer.specs.Sizes.{store_bytes, scratch_bytes, magnitudes_count}

module _ (w h : ℕ) (wide : w ≤ 4096) (high : h ≤ 4096) (store scratch magnitudes : ℕ) where
  fits : too_large w h ≡ false
  fits = rw (le-ltb 4096 w wide, le-ltb 4096 h high)

  pub enough : store_bytes w h ≤ store → scratch_bytes w h ≤ scratch → magnitudes_count w h ≤ magnitudes → memory_refusal store scratch magnitudes w h ≡ 0
  unfolding memory_refusal store_bytes scratch_bytes magnitudes_count
  enough a b c = simp (le-ltb _ _ (rw fits at a), le-ltb _ _ (rw fits at b), le-ltb _ _ (rw fits at c))

  pub store-short : store < store_bytes w h → memory_refusal store scratch magnitudes w h ≡ 12
  unfolding memory_refusal store_bytes
  store-short a = simp (lt-ltb _ _ (rw fits at a))

  pub scratch-short : store_bytes w h ≤ store → scratch < scratch_bytes w h → memory_refusal store scratch magnitudes w h ≡ 13
  unfolding memory_refusal store_bytes scratch_bytes
  scratch-short a b = simp (le-ltb _ _ (rw fits at a), lt-ltb _ _ (rw fits at b))

  pub magnitudes-short : store_bytes w h ≤ store → scratch_bytes w h ≤ scratch → magnitudes < magnitudes_count w h → memory_refusal store scratch magnitudes w h ≡ 14
  unfolding memory_refusal store_bytes scratch_bytes magnitudes_count
  magnitudes-short a b c = simp (le-ltb _ _ (rw fits at a), le-ltb _ _ (rw fits at b), lt-ltb _ _ (rw fits at c))
