use Rattle.std.proofs.Common.{◌≤◌, take}
use Rattle.prl_dates.specs.code.Turns.{StepsBy}
use Rattle.prl_dates.proofs.turns.turn_over.Given as goal

abbrev pub invariant-loop-op : goal.invariant-loop-op
invariant-loop-op l = record {
  some : 1 ≤ l.turn.jobs;
  steps : StepsBy (take l.op-index l.ops) l.turn.jobs l.turn.higher;
}
