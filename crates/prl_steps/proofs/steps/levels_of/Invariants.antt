use Rattle.std.proofs.Common.{◌≡◌, drop}
use Rattle.prl_steps.specs.Steps.{greatest_of, least_of}
use Rattle.prl_steps.proofs.steps.levels_of.Given as goal

-- what they are with the steps that are left
abbrev pub invariant-loop-step : goal.invariant-loop-step
invariant-loop-step l = record {
  least : least_of l.least (drop l.step-index l.steps) ≡ least_of l.first l.steps;
  greatest : greatest_of l.greatest (drop l.step-index l.steps) ≡ greatest_of l.first l.steps;
}
