use Rattle.prl_base.proofs.Standard.{◌+◌, ◌*◌, ◌≤◌, ℕ, ap, arith}
use Rattle.prl_ages.proofs.Falling.{within_small}
use Rattle.prl_ages.proofs.verdicts.verdicts_with.Goals as goal

pub ready_job-requires-clause-small : goal.ready_job-requires-clause-small
ready_job-requires-clause-small c =
    within_small c.args.plan.now.graph c.jobs_of-per.ensures.plan.graph c.args.a.0 c.requires.actuator c.args.turns c.jobs_of-per.result c.min-most.result
    c.requires.few c.jobs_of-per.ensures.jobs (omega (arith, c.min-most.ensures))

pub needed-requires-clause-small : goal.needed-requires-clause-small
needed-requires-clause-small c =
    within_small c.args.plan.now.graph c.jobs_of-per.ensures.plan.graph c.args.a.0 c.requires.actuator c.args.turns c.jobs_of-per.result c.in_ok-ready.ready
    c.requires.few c.jobs_of-per.ensures.jobs (omega (arith, c.min-most.ensures, c.in_ok-ready.ensures.few))
