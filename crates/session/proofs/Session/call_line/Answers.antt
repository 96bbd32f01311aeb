-- `session::Session::call_line` meets its contract: a frame line's call, or 16. Assumes nothing.
use borrow.Author.Rules.{rules}
use mathlib.Core.Path.{refl, sym, ap, ◌∙◌}
use lib.ListN.{take}
use Rattle.content.specs.State.{Answer}
use Rattle.frame_call.specs.Call.{Outcome}
use Rattle.session.proofs.Holding.{taken-within}
use Rattle.session.proofs.Calls.{line-pixels, line-accepted, line_refused}
use Rattle.session.proofs.Session.call_line.Goals as goal

pub call_frame-requires : goal.call_frame-requires
call_frame-requires c = line-pixels _ _ c.in-Some.ensures.value

pub returns-in-Some : goal.returns-in-Some
returns-in-Some c =
    let s = c.args.self.now in
    let held = taken-within s.line s.length c.min-held.result (search rules) c.min-held.ensures in
    let same = line-accepted (record s { luma = c.read_line.new.luma }) (take s.length s.line) c.in-Some.f (rw held at c.in-Some.ensures.value) (rw held at c.in-Some.ensures.luma_after) in
    record {
      value = c.call_frame.ensures.value ∙ ap (λ (o : Outcome Answer). o.answer) same;
      store_after = c.call_frame.ensures.store_after ∙ ap (λ (o : Outcome Answer). o.store) same;
      others = c.call_frame.ensures.others;
    }

pub returns-in-None : goal.returns-in-None
returns-in-None c =
    let s = c.args.self.now in
    let held = taken-within s.line s.length c.min-held.result (search rules) c.min-held.ensures in
    let same = line_refused (record { detector = s.detector; store = s.store; number = s.number }) (take s.length s.line) (rw held at c.in-None.ensures.value) in
    record { value = sym (ap (λ (o : Outcome Answer). o.answer) same); store_after = sym (ap (λ (o : Outcome Answer). o.store) same); others = refl }
