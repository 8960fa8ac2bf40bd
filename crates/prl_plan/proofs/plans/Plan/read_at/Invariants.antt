use Rattle.std.proofs.Common.{◌≡◌, ◌+◌, length, take}
use Rattle.prl_plan.specs.Plans.{reads_of}
use Rattle.prl_plan.proofs.plans.Plan.read_at.Given as goal

abbrev pub invariant-loop-e : goal.invariant-loop-e
invariant-loop-e l = l.fn.place ≡ length (reads_of l.self l.fn.i.0 l.fn.n 0 (take l.e l.self.graph.edges)) + l.left
