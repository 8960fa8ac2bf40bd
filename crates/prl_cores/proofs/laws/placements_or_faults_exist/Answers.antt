use Rattle.prl_cores.proofs.SomePlacement.{placed_or_fault}
use Rattle.prl_cores.proofs.laws.placements_or_faults_exist.Goals as goal

pub returns : goal.returns
returns c = λ plan is text. placed_or_fault plan text (c.spreads_exist.ensures plan is)
