-- `canny_thin::Thinning::class_at` meets its contract. Assumes nothing.
use Rattle.std.proofs.Common.{◌≡◌, ◌+◌, ◌*◌, get_or, ◌∙◌, arith}
use Rattle.std.proofs.lemmas.Int.{ints}
use lib.IntN.{pos}
use mir.Syntax.{w32}
use mir.Val.{to_z, of_z}
use Rattle.arch_sobel.proofs.Inner.{within, is-inner}
use Rattle.canny_thin.proofs.Near.{along-stays, class-inner}
use Rattle.canny_thin.proofs.Thinning.class_at.Goals as goal

pub returns : goal.returns
returns c =
    let p = c.args.self in
    let inner = is-inner c.requires in
    let in_it = within _ _ _ _ _ inner p.packed in
    let m = get_or p.mag.now (c.args.y * p.luma.w + c.args.x) (pos 0) in
    let back : to_z w32 (of_z w32 m) ≡ m = omega (arith, ints) in
    class-inner _ _ _ _ _ _ _ _ _ _ inner (c.keeps_along-stay.ensures ∙ along-stays p.mag.now p.luma.w p.luma.h c.args.x c.args.y in_it c.args.dir)
    (rw back at c.class_of.ensures)
