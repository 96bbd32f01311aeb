-- The bisection of `auto_kernel_size`: two bounds that come together about the root of a number.
use mathlib.Core.Path.{◌≡◌}
use Prim.Native.Nat.{ℕ, ◌+◌, ◌-◌, ◌*◌, ◌/◌, ◌^◌, ◌≤◌, ◌<◌}
use native.Mathlib.Nat.{mul-le-mul}
use native.Mathlib.Omega.{arith}
use Rattle.std.proofs.lemmas.Nat.{pow-add, pow_pos}
use Rattle.std.proofs.Math.Pow.{pow_mono}

-- the root of s is from r to below r + g; the last bound is what a u64 needs of the squares
abbrev pub Between : ℕ → ℕ → ℕ → Type 0
Between s r g = (0 < g) × (r * r ≤ s) × (s < (r + g) * (r + g)) × (r + g ≤ 4294967296)

-- the first bounds, for a number whose top bit is bit j: a power of two of half as many bits, and twice as much
pub first : (s j q : ℕ) → q ≡ j / 2 → 2 ^ j ≤ s → s < 2 * 2 ^ j → j < 64 → Between s (2 ^ q) (2 ^ q)
first s j q e a b k =
    let below : 2 ^ (q + q) ≤ 2 ^ j = pow_mono (omega arith) in
    let above : 2 ^ (1 + j) ≤ 2 ^ ((1 + q) + (1 + q)) = pow_mono (omega arith) in
    let small : 2 ^ (1 + q) ≤ 4294967296 = pow_mono {i = 1 + q} {j = 32} (omega arith) in
    let twice : 2 ^ (1 + q) ≡ 2 ^ q + 2 ^ q = omega (arith, pow-add 2 1 q) in
    (pow_pos q, omega (arith, pow-add 2 q q), rw (← twice) (omega (arith, pow-add 2 1 j, pow-add 2 (1 + q) (1 + q))), omega arith)

-- the middle's square is at most s
pub upper : (s r g : ℕ) → Between s r g → (r + g / 2) * (r + g / 2) ≤ s → Between s (r + g / 2) (g - g / 2)
upper s r g b h = let e : r + g / 2 + (g - g / 2) ≡ r + g = omega arith in (omega arith, h, rw e b.2, omega arith)

-- the middle's square is over s
pub lower : (s r g : ℕ) → Between s r g → s < (r + g / 2) * (r + g / 2) → Between s r (g - g / 2)
lower s r g b h = let m : r + g / 2 ≤ r + (g - g / 2) = omega arith in (omega arith, b.1, omega (arith, mul-le-mul m m), omega arith)
