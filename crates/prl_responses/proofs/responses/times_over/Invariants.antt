use Rattle.prl_responses.specs.code.PieceTimes.{AreAllTimes}
use Rattle.prl_responses.proofs.responses.times_over.Given as goal

abbrev pub invariant-loop-k : goal.invariant-loop-k
invariant-loop-k l = AreAllTimes l.plan.graph l.pieces l.k l.list.items
