use Rattle.prl_edf.proofs.OneRun.{plain_is_one}
use Rattle.prl_edf.proofs.SomeRun.{some_plain}
use Rattle.prl_edf.proofs.laws.plain_run_is_one.Goals as goal

pub returns : goal.returns
returns c = record { some = some_plain; one = plain_is_one }
