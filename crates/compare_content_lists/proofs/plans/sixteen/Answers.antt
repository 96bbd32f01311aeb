-- `plans::sixteen` meets its contract: after the loop the rows are the definition's.
use Rattle.std.proofs.Common.{ap, ◌∙◌, arith}
use Rattle.laws.proofs.Tab.{filled-all}
use Rattle.light_plan.specs.Plan.{plan_of}
use Rattle.compare_content_lists.specs.Plans.{sixteen_of}
use Rattle.compare_content_lists.proofs.plans.sixteen.Goals as goal

pub returns : goal.returns
unfolding sixteen_of
returns c = c.plan.ensures ∙ ap plan_of (filled-all c.loop-i.invariant (omega arith))
