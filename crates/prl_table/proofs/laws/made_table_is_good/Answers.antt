use Rattle.prl_table.proofs.MadeLaw.{made_table_good}
use Rattle.prl_table.proofs.laws.made_table_is_good.Goals as goal

pub returns : goal.returns
returns c = λ plan horizon is until run edf met steady entries permuted.
    made_table_good plan is horizon (c.horizon_jobs_are_counted.ensures plan.graph horizon.until) until run edf met steady entries permuted
