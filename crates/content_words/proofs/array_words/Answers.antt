-- `array_words` of content_words meets its contract.
use native.Mathlib.Omega.{arith}
use Rattle.content_words.proofs.Bytes.{array_back}
use Rattle.content_words.proofs.array_words.Goals as goal

pub returns-clause-result_value : goal.returns-clause-result_value
returns-clause-result_value c = array_back _ _ c.args.bytes c.word_of.ensures.result_value c.word_of-2.ensures.result_value (omega arith)
