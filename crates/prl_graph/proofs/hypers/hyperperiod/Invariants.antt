use Rattle.std.proofs.Common.{◌≤◌, take}
use Rattle.prl_plan.specs.declared.limits.TheConstants.{MAX_HYPER}
use Rattle.prl_graph.specs.Hyperperiods.{IsHyperperiod}
use Rattle.prl_graph.proofs.hypers.hyperperiod.Given as goal

abbrev pub invariant-loop-clock : goal.invariant-loop-clock
invariant-loop-clock l = record {
  is : IsHyperperiod (take l.clock-index l.clocks) l.hyper;
  within : l.hyper ≤ MAX_HYPER;
}
