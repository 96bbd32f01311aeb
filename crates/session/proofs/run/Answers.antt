-- `session::run` meets its contract: the header, and the lines after it. Assumes nothing.
use borrow.Author.Rules.{rules}
use mathlib.Core.Path.{◌≡◌, refl, ap}
use native.Mathlib.Omega.{arith}
use lib.ListN.{length}
use Rattle.decimal.specs.Placed.{placed}
use Rattle.session.specs.Output.{output}
use Rattle.session.specs.Feeding.{fresh}
use Rattle.session.specs.Sessions.{state_of}
use Rattle.session.proofs.Runs.{short, runs-all}
use Rattle.session.proofs.run.Goals as goal
use Rattle.session.proofs.run.Goals.{then-taken-input-via-then-taken-input, then-taken-input-via-else-taken-input+then-text-lt-ROOM}

pub returns-then-taken-input : goal.returns-then-taken-input
returns-then-taken-input c =
    let new : state_of c.new-session.result ≡ fresh = ap state_of c.new-session.ensures in
    let H = rw c.header.ensures at c.put_text.ensures in
    let T = rw new at c.feed_chunks-taken.ensures in
    let least = short c.args.input.now _ _ _ _ _ refl H T in
    elim c.then-taken-input.branch [
      | then-taken-input-via-then-taken-input w ↦ omega (arith, T.full w.if-taken-input.true, H.size, least)
      | then-taken-input-via-else-taken-input+then-text-lt-ROOM w ↦ omega (arith, w.if-text-lt-ROOM.true, H.size, T.text.size, least)
    ]

pub returns : goal.returns
returns c =
    let new : state_of c.new-session.result ≡ fresh = ap state_of c.new-session.ensures in
    let H = rw c.header.ensures at c.put_text.ensures in
    let T = rw new at c.feed_chunks-taken.ensures in
    let written = runs-all c.args.input.now _ _ _ _ _ refl H T _ c.if-taken-input.false c.if-out-lt-HEADER.false c.finish_to.ensures.text in
    let told : (c.finish_to.new.text.out.now ≡ placed c.args.out.now 0 (output c.args.input.now)) × (c.finish_to.new.text.at ≡ length (output c.args.input.now)) = (written.memory, omega (arith, written.place)) in
    search rules
