use Rattle.prl_replay.specs.Replays.{AreFlowsBelow}
use Rattle.prl_replay.proofs.flows.flows_of.Given as goal

-- the flows of the tasks so far
abbrev pub invariant-loop-i : goal.invariant-loop-i
invariant-loop-i l = AreFlowsBelow l.core l.i l.flows.items
