use Rattle.prl_values.proofs.Settled.{values_exist}
use Rattle.prl_values.proofs.laws.job_values_exist.Goals as goal

pub returns : goal.returns
returns c = values_exist
