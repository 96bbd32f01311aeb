-- `session::Session::call_frame` meets its contract: the memory that is lent has the lengths that the definition's has. Assumes nothing.
use borrow.Author.Rules.{rules}
use mathlib.Core.Path.{refl, ap, ◌∙◌}
use Prim.Native.Nat.{◌*◌}
use lib.ListN.{take}
use Rattle.content.specs.State.{Answer}
use Rattle.frame_call.specs.Call.{Outcome}
use Rattle.session.specs.Sessions.{frame_call_of}
use Rattle.session.proofs.Calls.{lent}
use Rattle.session.proofs.Session.call_frame.Goals as goal

pub returns : goal.returns
unfolding frame_call_of
returns c =
    let f = c.args.f in
    let s = c.args.self.now in
    let same = lent s.detector (take (f.width * f.height) s.luma) f.width f.height f.width f.stamp s.store s.scratch s.magnitudes (search rules) (search rules) in
    record {
      value = c.process_luma.ensures.called.answered ∙ ap (λ (o : Outcome Answer). o.answer) same;
      store_after = c.process_luma.ensures.called.stored ∙ ap (λ (o : Outcome Answer). o.store) same;
      others = refl;
    }
