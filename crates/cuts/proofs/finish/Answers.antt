-- `cuts::finish` meets its contract: the last line's text fits its 64 bytes. Assumes nothing.
use mathlib.Core.Path.{sym}
use native.Mathlib.Omega.{arith}
use lib.Seq.{length-take-le}
use Rattle.session.specs.Sessions.{state_of}
use Rattle.session.proofs.Feeding.{last-length}
use Rattle.cuts.proofs.finish.Goals as goal

pub slice_bounds-out-end : goal.slice_bounds-out-end
slice_bounds-out-end g c = let last = last-length (state_of c.args.session.now) in omega (arith, last, c.finish-written.ensures.finishes.size, c.finish-written.array_long)

pub slice_bounds-write_all-end : goal.slice_bounds-write_all-end
slice_bounds-write_all-end g c =
    let last = last-length (state_of c.args.session.now) in sym (length-take-le _ _ (omega (arith, last, c.finish-written.ensures.finishes.size, c.finish-written.array_long)))
