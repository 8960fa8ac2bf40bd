use Rattle.prl_base.proofs.Standard.{◌+◌, ◌-◌, ◌*◌, ◌/◌, ℕ, ap, arith}
use Rattle.prl_base.specs.declared.numbers.TaskNo.{TaskNo}
use Rattle.prl_ages.specs.Reaching.{jobs_of}
use Rattle.prl_ages.proofs.Counted.{consumer_inside}
use Rattle.prl_ages.proofs.Lagging.{turns_cover, turns_few}
use Rattle.prl_ages.proofs.lags.turns_of_constants.Goals as goal

pub jobs_of-jobs-requires : goal.jobs_of-jobs-requires
jobs_of-jobs-requires c =
    let same = ap (λ (t : TaskNo). t.0) c.consumer_of-to.ensures.to in
    omega (arith, same, consumer_inside c.args.plan.now.graph c.consumer_of-to.ensures.plan.graph c.args.e.0 c.requires)

pub returns-clause-covers : goal.returns-clause-covers
returns-clause-covers c =
    let jobs = c.jobs_of-jobs.result in
    let first = c.constants_on-first.result in
    let same = ap (λ (t : TaskNo). (first + (jobs - 1)) / jobs * jobs_of c.args.plan.now.graph t.0) c.consumer_of-to.ensures.to in
    let per = ap (λ (x : ℕ). (first + (jobs - 1)) / jobs * x) c.jobs_of-jobs.ensures.jobs in
    record {
      first = first;
      reader = c.constants_on-first.ensures.first;
      within = omega (arith, turns_cover first jobs c.jobs_of-jobs.ensures.some, same, per);
    }

pub returns-clause-few : goal.returns-clause-few
returns-clause-few c =
    omega (arith, turns_few c.constants_on-first.result c.jobs_of-jobs.result c.jobs_of-jobs.ensures.some, c.constants_on-first.ensures.few)
