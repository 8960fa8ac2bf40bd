use Rattle.prl_base.proofs.Standard.{◌+◌, ◌*◌, ◌≤◌, ℕ, ap, arith}
use Rattle.prl_ages.specs.Reaching.{jobs_of}
use Rattle.prl_ages.proofs.Falling.{within_small}
use Rattle.prl_ages.proofs.verdicts.two_spans.Goals as goal

pub extremes_within-requires-clause-small : goal.extremes_within-requires-clause-small
extremes_within-requires-clause-small c =
    let graph = c.args.plan.now.graph in
    let same = ap (λ (x : ℕ). c.args.turns * x) c.jobs_of-per.ensures.jobs in
    within_small graph c.jobs_of-per.ensures.plan.graph c.args.a.0 c.requires.actuator c.args.turns c.jobs_of-per.result (c.args.ready + c.jobs_of-per.result) c.requires.few c.jobs_of-per.ensures.jobs
    (omega (arith, c.requires.ready, same))

pub extremes_within-requires-2-clause-small : goal.extremes_within-requires-2-clause-small
extremes_within-requires-2-clause-small c =
    within_small c.args.plan.now.graph c.jobs_of-per.ensures.plan.graph c.args.a.0 c.requires.actuator c.args.turns c.jobs_of-per.result (c.args.turns * c.jobs_of-per.result + c.jobs_of-per.result)
    c.requires.few c.jobs_of-per.ensures.jobs (omega arith)
