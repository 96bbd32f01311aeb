-- `output::raised` meets its contract: the microseconds since the least stamp.
use Rattle.std.proofs.Common.{◌≡◌, refl, ap, ◌∙◌, Bool, true, false, cond, None, Option, Some, ℕ}
use Rattle.std.specs.Option.{unwrap_or}
use lib.IntN.{nat_abs, ◌-ℤ◌}
use lib.Signed.{le_z}
use Rattle.timestamp.specs.Stamps.{least, distance, duration_since}
use Rattle.timestamp.specs.declared.Timestamp.{Timestamp}
use Rattle.compare_lists.specs.Records.{raised_of}
use Rattle.compare_lists.proofs.output.raised.Goals as goal

by-test : (b : Bool) (n : ℕ) → unwrap_or (cond b (Some n) None) 0 ≡ cond b n 0
by-test true n = refl
by-test false n = refl

raised_is : (t : Timestamp) (s : Option ℕ) → s ≡ duration_since t (record { micros = least }) → unwrap_or s 0 ≡ raised_of t
unfolding duration_since distance raised_of
raised_is t s e = ap (λ (o : Option ℕ). unwrap_or o 0) e ∙ by-test (le_z least t.micros) (nat_abs (t.micros -ℤ least))

pub returns : goal.returns
returns c = c.unwrap_or.ensures ∙ raised_is c.args.t _ c.duration_since.ensures
