-- What a writer promises of the memory: only places from `start` to below `end` are written.
use Rattle.std.specs.Prelude.{◌≡◌, List, ℕ, ◌<◌, ◌≤◌, length, get_or}
use Rattle.compare_lists.specs.declared.output.Output.{Output}

-- the rules leave open what is written: any bytes are right
pub record Wrote (old new : List ℕ) (start end : ℕ) : Type 0 where
  pub onward : start ≤ end
  pub within : start ≤ length old → end ≤ length old
  pub same_length : length new ≡ length old
  pub before : (k : ℕ) → k < start → get_or new k 0 ≡ get_or old k 0
  pub behind : (k : ℕ) → end ≤ k → get_or new k 0 ≡ get_or old k 0

-- the same of memory with the place of the next byte: it goes on in that memory, from that place
pub record Written (old new : Output) : Type 0 where
  pub same_memory : new.bytes.ghost_name ≡ old.bytes.ghost_name
  pub wrote : Wrote old.bytes.now new.bytes.now old.at new.at
