use Rattle.prl_calls.specs.Stops.{given_of}
use Rattle.prl_calls.proofs.Stops.{stops_plan_or_none}
use Rattle.prl_calls.proofs.plans.plan_for.Goals as goal

pub returns-else-memory : goal.returns-else-memory
returns-else-memory c = stops_plan_or_none (given_of c.args.request.now) c.in-Err.stop c.in-Err.ensures c.if-memory.ensures.no
