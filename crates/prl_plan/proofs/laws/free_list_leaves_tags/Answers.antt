use Rattle.prl_plan.specs.Runs.{opening}
use Rattle.prl_plan.proofs.Tagged.{tagged_opening}
use Rattle.prl_plan.proofs.LastTags.{left_opening, list_left}
use Rattle.prl_plan.proofs.laws.free_list_leaves_tags.Goals as goal

pub returns : goal.returns
returns c = λ k facts list free. list_left k facts (opening k) (tagged_opening k facts) (left_opening k facts) list free
