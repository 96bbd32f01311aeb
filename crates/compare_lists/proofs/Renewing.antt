-- A plane whose first bytes a callee wrote.
use mathlib.Core.Path.{◌≡◌, refl, ap, ◌∙◌}
use mathlib.Core.Bool.{true, false}
use mathlib.Core.List.{List, ◌∷◌, ◌++◌}
use Prim.Native.Nat.{ℕ, zero, suc, min}
use native.Mathlib.Omega.{arith}
use lib.Dec.{leb}
use lib.ListN.{length, take, drop, length-take, replicate}
use Rattle.laws.specs.Lists.{tabulate}
use Rattle.replay.specs.Generator.{next_of, byte_of, after, shades}
use Rattle.compare_lists.specs.Memory.{renewal, renewed_plane, number_after}

-- as many bytes are lent as are renewed
lent_length : (e n : ℕ) (plane : List ℕ) → e ≡ min n (length plane) → length (take e plane) ≡ min n (length plane)
lent_length e n plane is = length-take e plane ∙ omega arith

-- a run of the generator
pub made-run : (plane run : List ℕ) (e n x kind r : ℕ)
    → leb kind 3 ≡ true → e ≡ min n (length plane) → r ≡ after (length (take e plane)) x → run ≡ shades (length (take e plane)) x kind → (r ≡ number_after plane n x kind) × (run ++ drop e plane ≡ renewed_plane plane n x kind)
unfolding number_after renewal
made-run plane run e n x kind r t is h g =
    let k = lent_length e n plane is in
    (rw (t, h, k) refl, rw (t, g, k, is) refl)

-- one byte throughout
replicate-tabulate : (n b : ℕ) → replicate n b ≡ tabulate n (λ k. b)
unfolding tabulate
replicate-tabulate zero b = refl
replicate-tabulate (suc n) b = ap (λ (l : List ℕ). b ∷ l) (replicate-tabulate n b)

pub made-level : (plane run : List ℕ) (e n x kind r b : ℕ)
    → leb kind 3 ≡ false → e ≡ min n (length plane) → r ≡ next_of x → b ≡ byte_of r → run ≡ replicate (length (take e plane)) b → (r ≡ number_after plane n x kind) × (run ++ drop e plane ≡ renewed_plane plane n x kind)
unfolding number_after renewal
made-level plane run e n x kind r b t is h d g =
    let k = lent_length e n plane is in
    (rw (t, h) refl, rw (t, g, k, replicate-tabulate, d, h, is) refl)

-- three planes, one after the other, by numbers that a definition gives
pub made-planes : (h s v h' s' v' : List ℕ) (n x k y z N X K : ℕ)
    → n ≡ N → x ≡ X → k ≡ K → y ≡ number_after h n x k → h' ≡ renewed_plane h n x k → z ≡ number_after s n y k → s' ≡ renewed_plane s n y k → v' ≡ renewed_plane v n z k → (h' ≡ renewed_plane h N X K) × ((s' ≡ renewed_plane s N (number_after h N X K) K) × (v' ≡ renewed_plane v N (number_after s N (number_after h N X K) K) K))
made-planes h s v h' s' v' n x k y z N X K en ex ek hy hh hz hs hv =
    rw (← en, ← ex, ← ek) (hh, (rw (← hy) hs, rw (← hy, ← hz) hv))
