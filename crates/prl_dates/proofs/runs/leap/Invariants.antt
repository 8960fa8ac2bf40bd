use Rattle.std.proofs.Common.{◌-◌, ◌≤◌, ◌<◌, ◌^◌}
use Rattle.prl_dates.specs.code.Runs.{IsSameTo}
use Rattle.prl_dates.proofs.runs.leap.Given as goal

abbrev pub invariant-loop-step : goal.invariant-loop-step
invariant-loop-step l = record {
  same : IsSameTo l.ops l.from l.value l.jobs l.last;
  some : 1 ≤ l.step;
  small : l.step < 2 ^ 34;
}

abbrev pub decreases-loop-step : goal.decreases-loop-step
decreases-loop-step l = l.jobs - l.last
