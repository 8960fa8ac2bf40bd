use Rattle.std.proofs.Common.{◌≡◌, take}
use Rattle.std.specs.List.{filter}
use Rattle.prl_evaluation.proofs.Groups.{is_left}
use Rattle.prl_evaluation.proofs.wholes.rest_of.Given as goal

abbrev pub invariant-loop-flow : goal.invariant-loop-flow
invariant-loop-flow l = l.rest.items ≡ filter (is_left l.setting l.flows) (take l.flow-index l.setting.order.now)
