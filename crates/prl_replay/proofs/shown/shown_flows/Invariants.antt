use Rattle.prl_replay.specs.Shown.{AreShownBelow}
use Rattle.prl_replay.proofs.shown.shown_flows.Given as goal

-- the flows of the tasks so far
abbrev pub invariant-loop-i : goal.invariant-loop-i
invariant-loop-i l = AreShownBelow l.closed l.plan.graph l.i l.flows.items
