use Rattle.std.proofs.Common.{rules, ◌≡◌, ◌*◌, ◌∙◌}
use Rattle.prl_overloads.proofs.Costs.{task_cost_is}
use Rattle.prl_overloads.proofs.overloads.asked_by.Goals as goal

pub returns : goal.returns
returns c =
    let product : c.in_ok-asked.asked ≡ c.jobs_within-jobs.result * c.from.result = search rules in
    task_cost_is c.args.plan.now c.args.horizon c.args.from c.args.to c.args.i.0 c.jobs_within-jobs.result c.from.result c.in_ok-asked.asked c.jobs_within-jobs.ensures
    (c.from.ensures ∙ c.wcet_of.ensures.wcet) product
