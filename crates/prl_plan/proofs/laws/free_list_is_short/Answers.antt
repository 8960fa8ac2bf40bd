use Rattle.std.proofs.Common.{arith}
use Rattle.prl_plan.specs.Horizons.{constants_on}
use Rattle.prl_plan.proofs.EventCounts.{list_is_short, plan_ends_last, plan_counts_all}
use Rattle.prl_plan.proofs.laws.free_list_is_short.Goals as goal

pub returns : goal.returns
returns c = λ plan on h is list free.
    omega (arith, list_is_short (constants_on plan on h) (plan_ends_last plan on h) list free, plan_counts_all plan on h is)
