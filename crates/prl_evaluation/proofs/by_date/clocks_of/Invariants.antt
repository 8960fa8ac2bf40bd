use Rattle.std.proofs.Common.{◌≡◌, take}
use Rattle.prl_evaluation.specs.code.Dates.{clocks_by}
use Rattle.prl_evaluation.proofs.by_date.clocks_of.Given as goal

abbrev pub invariant-loop-flow : goal.invariant-loop-flow
invariant-loop-flow l = l.of.items ≡ take l.flow-index (clocks_by l.clocks l.flows)
