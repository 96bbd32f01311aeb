-- `write` of content_words meets its contract.
use native.Mathlib.Omega.{arith}
use Rattle.content_words.proofs.Writing.{written}
use Rattle.content_words.proofs.ContentRecordRecorded34.write.Goals as goal

pub returns : goal.returns
returns c =
    let both = written c.args.d _ _ _ _
    (c.options_words.ensures.value, c.options_words.ensures.result_value)
    (c.stream_words.ensures.value, c.stream_words.ensures.result_value)
    (c.filter_words.ensures.value, c.filter_words.ensures.result_value)
    (c.plan_words.ensures.value, c.plan_words.ensures.result_value)
    c.args.out.now _ _ _ _ c.copy_from_slice.ensures.after c.copy_from_slice-2.ensures.after c.copy_from_slice-3.ensures.after c.copy_from_slice-4.ensures.after (omega arith) in
    record { after = both.0; back = both.1 }
