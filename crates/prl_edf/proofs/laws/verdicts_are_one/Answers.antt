use Rattle.prl_edf.proofs.OnePieces.{one_list, one_verdict}
use Rattle.prl_edf.proofs.laws.verdicts_are_one.Goals as goal

pub returns : goal.returns
returns c = record { pieces = one_list; verdicts = one_verdict }
