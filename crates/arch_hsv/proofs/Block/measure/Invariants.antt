-- `arch_hsv::Block::measure` meets its contract. The invariant: the parts of the pixels before x are in place. Assumes nothing.
use Rattle.laws.proofs.Tab.{Filled}
use Rattle.arch_hsv.specs.Hsv.{value, delta}
use Rattle.arch_hsv.specs.Rows.{of_pixel}
use Rattle.arch_hsv.specs.Blocks.{sixths}
use Rattle.arch_hsv.proofs.Block.measure.Given as goal

abbrev pub invariant-loop-x : goal.invariant-loop-x
invariant-loop-x l = record {
  v : Filled 0 (of_pixel value l.row) 256 l.x l.self.v;
  d : Filled 0 (of_pixel delta l.row) 256 l.x l.self.d;
  k : Filled 0 (of_pixel sixths l.row) 256 l.x l.self.k;
}
