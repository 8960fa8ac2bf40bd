use Rattle.prl_plan.specs.Runs.{opening}
use Rattle.prl_plan.proofs.Sound.{sound_opening}
use Rattle.prl_plan.proofs.Legal.{IsLegal_gated}
use Rattle.prl_plan.proofs.laws.legal_list_is_gated.Goals as goal

pub returns : goal.returns
returns c = λ k facts list legal. IsLegal_gated k facts (opening k) (sound_opening k facts) list legal
