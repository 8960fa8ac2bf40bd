use Rattle.prl_plan.proofs.Counts.{IsHorizonJob_count, job_count_horizon}
use Rattle.prl_plan.proofs.facts.horizon_jobs_are_counted.Goals as goal

pub returns : goal.returns
returns c = λ graph until i n task some. ((λ is. job_count_horizon graph until i n some is), (λ h. IsHorizonJob_count graph until i n task some h))
