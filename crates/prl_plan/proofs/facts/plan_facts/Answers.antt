use Rattle.prl_plan.proofs.facts.plan_facts.Goals as goal

pub returns : goal.returns
returns c = c.plans_keep_facts.ensures c.args.plan.now c.args.horizon c.plan_is_one.ensures c.requires
