use Rattle.prl_table.proofs.Edf.{edf_is_run}
use Rattle.prl_table.proofs.laws.edf_run_is_run.Goals as goal

pub returns : goal.returns
returns _ = edf_is_run
