-- What a list of calls adds to a digest: what it wrote down, from the start of the memory on, and nothing else.
use Rattle.std.specs.Prelude.{◌≡◌, List, ℕ, take}
use Rattle.replay.specs.declared.Digest.{Digest}
use Rattle.replay.specs.Digest.{fed}
use Rattle.compare_lists.specs.Wrote.{Wrote}

-- d' is d fed with so many first bytes of the memory as were written; how many they are, and which, is left open (Wrote)
pub record FedWritten (d : Digest) (old new : List ℕ) (d' : Digest) : Type 0 where
  pub count : ℕ
  pub wrote : Wrote old new 0 count
  pub fed : d' ≡ fed d (take count new)
