-- `plan_words` of content_words meets its contract.
use native.Mathlib.Omega.{arith}
use Rattle.content_words.proofs.Bytes.{plan_back}
use Rattle.content_words.proofs.plan_words.Goals as goal

pub returns-clause-result_value : goal.returns-clause-result_value
returns-clause-result_value c =
    plan_back c.args.p c.tidied-t.result _ _ _ _ _ _ c.tidied-t.ensures (omega arith) (omega arith) (omega arith) (omega arith)
    c.array_words-from.ensures.result_value c.array_words-to.ensures.result_value c.array_words-threshold.ensures.result_value
