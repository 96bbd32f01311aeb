-- `arch_hsv::Block::store` meets its contract. The invariant: the pixels before x are stored. Assumes nothing.
use mathlib.Core.Path.{◌≡◌}
use lib.ListN.{length}
use Rattle.arch_hsv.specs.Blocks.{parts_stored}
use Rattle.arch_hsv.proofs.Block.store.Given as goal

abbrev pub invariant-loop-x : goal.invariant-loop-x
invariant-loop-x l = record {
  size : length l.out ≡ length l.initial.out;
  stored : l.out ≡ parts_stored l.initial.out l.self.v l.self.d l.self.k l.first l.n l.x;
}
