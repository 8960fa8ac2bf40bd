use Rattle.prl_forever.proofs.Steady.{steady}
use Rattle.prl_forever.proofs.laws.light_runs_are_steady.Goals as goal

pub returns : goal.returns
returns c = λ plan is light h of far run plain met.
    steady plan is (λ until i n. c.horizon_jobs_are_counted.ensures plan.graph until i n) h (c.plans_keep_facts.ensures plan h is of) far run plain met light
