-- `plan_text` of content_station meets its contract: what is written to 192 bytes has no more of them.
use Rattle.std.proofs.Common.{arith}
use Rattle.content_station.proofs.Written.{no-longer}
use Rattle.content_station.proofs.plan_text.Goals as goal

pub overflow_cast-result : goal.overflow_cast-result
overflow_cast-result c = omega (arith, c.write.ensures.value, c.write.array_long, no-longer _ _ _ c.write.ensures.after)
