-- Writers one after the other.
use mathlib.Core.Path.{refl, ◌∙◌}
use mathlib.Core.List.{List}
use Prim.Native.Nat.{ℕ, ◌+◌, ◌<◌}
use native.Mathlib.Omega.{arith}
use lib.ListN.{length, set, length-set}
use lib.Seq.{get_or-set_other}
use Rattle.compare_lists.specs.declared.output.Output.{Output}
use Rattle.compare_lists.specs.Wrote.{Wrote, Written}

-- nothing written
pub wrote_none : (l : List ℕ) (s : ℕ) → Wrote l l s s
wrote_none l s = record { onward = omega arith; within = λ h. h; same_length = refl; before = λ k h. refl; behind = λ k h. refl }

-- one place
pub wrote_one : (l : List ℕ) (s v : ℕ) → s < length l → Wrote l (set l s v) s (s + 1)
wrote_one l s v h =
    record {
      onward = omega arith;
      within = λ _. omega arith;
      same_length = length-set l s v;
      before = λ k p. get_or-set_other l s k v 0 (omega arith);
      behind = λ k p. get_or-set_other l s k v 0 (omega arith);
    }

-- one writer, then another from where it ended
pub wrote-both : {a b c : List ℕ} {s m e : ℕ} → Wrote a b s m → Wrote b c m e → Wrote a c s e
wrote-both p q =
    record {
      onward = omega (arith, p.onward, q.onward);
      within = λ h. let i = p.within h in let l = p.same_length in let j = q.within (omega arith) in omega arith;
      same_length = q.same_length ∙ p.same_length;
      before = λ k h. q.before k (omega (arith, p.onward)) ∙ p.before k h;
      behind = λ k h. q.behind k h ∙ p.behind k (omega (arith, q.onward));
    }

-- the same of memory with the place of the next byte
pub written_none : (o : Output) → Written o o
written_none o = record { same_memory = refl; wrote = wrote_none o.bytes.now o.at }

pub written_both : {a b c : Output} → Written a b → Written b c → Written a c
written_both p q = record { same_memory = q.same_memory ∙ p.same_memory; wrote = wrote-both p.wrote q.wrote }
