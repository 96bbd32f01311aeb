-- `session::Session::hold` meets its contract: as many of the bytes as the line has room for. Assumes nothing.
use borrow.Author.Rules.{rules}
use mathlib.Core.Path.{◌≡◌, refl, ap, ◌∙◌}
use Prim.Native.Nat.{ℕ, ◌+◌, ◌-◌}
use native.Mathlib.Omega.{arith}
use lib.ListN.{take}
use Rattle.session.proofs.Holding.{held-written}
use Rattle.session.proofs.Session.hold.Goals as goal

pub returns : goal.returns
returns c =
    let s = c.args.self.now in
    let k = c.min-held.result in
    let m = c.min.result in
    let size : k + m - k ≡ m = omega arith in
    let part : c.copy_from_slice.new.self ≡ take m c.args.bytes.now = c.copy_from_slice.ensures.after ∙ ap (λ (n : ℕ). take n c.args.bytes.now) size in
    record {
      held = held-written s.line c.args.bytes.now s.length k (k + m) m c.copy_from_slice.new.self (search rules) c.min-held.ensures c.min.ensures refl part;
      others = refl;
    }
