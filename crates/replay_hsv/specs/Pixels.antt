-- compare/README.md, "Replays": what `replay_hsv` feeds to a digest.
use Rattle.std.specs.Prelude.{List, [], ◌∷◌, ℕ, zero, suc, ◌+◌, ◌/◌, ◌%◌}
use Rattle.arch_hsv.specs.Hsv.{hue, saturation, value}
use Rattle.replay.specs.declared.Digest.{Digest}
use Rattle.replay.specs.Digest.{empty, fed}

-- hue, saturation and value of the pixel of blue b, green g and red r
abbrev pub hsv_bytes : ℕ → ℕ → ℕ → List ℕ
hsv_bytes b g r = hue b g r ∷ saturation b g r ∷ value b g r ∷ []

-- of pixel p
abbrev pub pixel_bytes : ℕ → List ℕ
pixel_bytes p = hsv_bytes (p / 65536) (p / 256 % 256) (p % 256)

-- the digest of n pixels from first on
unfoldable pub digest_of : ℕ → ℕ → Digest
digest_of first zero = empty
digest_of first (suc n) = fed (digest_of first n) (pixel_bytes (first + n))
