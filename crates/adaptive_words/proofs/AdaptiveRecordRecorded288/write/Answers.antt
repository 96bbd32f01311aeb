-- `write` of adaptive_words meets its contract.
use mathlib.Core.Path.{refl}
use native.Mathlib.Omega.{arith}
use Rattle.adaptive_words.proofs.Writing.{written}
use Rattle.adaptive_words.proofs.AdaptiveRecordRecorded288.write.Goals as goal

pub returns : goal.returns
returns c =
    let both = written c.args.d _ _ _ _ _
    (c.options_words.ensures.value, c.options_words.ensures.result_value)
    (c.stream_words.ensures.value, c.stream_words.ensures.result_value)
    (c.window_words.ensures.value, c.window_words.ensures.result_value)
    (c.put_stamps.ensures.after, c.put_stamps.ensures.back)
    (c.put_scores.ensures.after, c.put_scores.ensures.back)
    c.args.out.now _ _ _ _ _ c.copy_from_slice.ensures.after c.copy_from_slice-2.ensures.after c.copy_from_slice-3.ensures.after refl refl (omega arith) in
    record { after = both.0; back = both.1 }
