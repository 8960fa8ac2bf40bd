use Rattle.prl_table.proofs.MadeTables.{made_is_good}
use Rattle.prl_table.proofs.laws.cut_of_steady_run_is_good.Goals as goal

pub returns : goal.returns
returns _ = made_is_good
