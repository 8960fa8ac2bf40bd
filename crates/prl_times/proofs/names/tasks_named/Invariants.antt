use Rattle.prl_base.proofs.Standard.{◌≡◌, ◌++◌, length}
use Rattle.prl_times.specs.Names.{AreOfPlan}
use Rattle.prl_times.proofs.Commas.{fronts}
use Rattle.prl_times.proofs.names.tasks_named.Given as goal

-- the word has the names of the tasks so far, each with a comma behind it, and then the rest
abbrev pub invariant-more : goal.invariant-more
invariant-more l = AreOfPlan l.plan.graph l.tasks.items × (l.word ≡ fronts l.plan.graph l.tasks.items ++ l.rest)

abbrev pub decreases-more : goal.decreases-more
decreases-more l = length l.rest
