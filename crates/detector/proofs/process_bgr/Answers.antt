-- `detector::process_bgr` meets its contract, by the picture of the frame.
use Rattle.frame_call.specs.Call.{picture_in}
use Rattle.detector.proofs.Shown.{by-picture}
use Rattle.detector.proofs.process_bgr.Goals as goal

pub returns : goal.returns
returns g c =
    let a = c.args in
    let t = g.D.Detect in
    let f = c.process_bgr-p in
    let both =
    by-picture (t.stream a.d) (t.settings a.d) (t.bad a.d) (t.stepped a.d) a.d (g.met.D.Detect.shows a.d) a.ts _ _ _ _ _ _ (picture_in (t.stream a.d) f.result) _
    (rw (c.stream.ensures, c.picture_options.ensures, c.is_bad.ensures) at f.ensures) c.answer_to.ensures.value c.answer_to.ensures.number in
    record { called = both.0; from_sums = both.1 }
